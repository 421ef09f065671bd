-- The hash table from a text to the participants whose code (BIC, ISO 9362) it may be. Each text
-- has one of 4,096 marks, and each mark belongs to no participant, to one or to several. A choice
-- of this hub.
use Rattle.std.specs.Prelude.{◌≡◌, ℕ, ◌+◌, ◌*◌, ◌/◌, ◌%◌, ◌^◌, ◌<◌, Bool, true, false, nat_eq}
use Rattle.std.specs.Prelude.{nat_lt, if◌then◌else◌}
use Rattle.std.specs.Prelude.{List, [], ◌∷◌, length, get_or, slice_index}
use Rattle.std.specs.Int.{from_be_bytes, w64}
use Rattle.inst_settings.specs.declared.finder.Holders.{Holders}
use Rattle.inst_settings.specs.declared.finder.Holders.TheVariants.{Nobody, Only, Several}
use Rattle.inst_base.specs.declared.code.TheConstants.{BRANCH_CODE_LENGTH}

-- The first eight characters (bank, country and place) as a number.
unfoldable pub bank_of : List ℕ → ℕ
bank_of code = from_be_bytes w64 (
    slice_index code 0 ∷ slice_index code 1 ∷ slice_index code 2 ∷ slice_index code 3
    ∷ slice_index code 4 ∷ slice_index code 5 ∷ slice_index code 6 ∷ slice_index code 7 ∷ [])

-- The three characters of a branch as a number, or 0.
unfoldable pub branch_of : List ℕ → ℕ
branch_of code = if nat_lt (length code) BRANCH_CODE_LENGTH then 0
    else from_be_bytes w64 (0 ∷ 0 ∷ 0 ∷ 0 ∷ 0 ∷ slice_index code 8 ∷ slice_index code 9
    ∷ slice_index code 10 ∷ [])

-- The mark of a bank and a branch.
unfoldable pub mixed : ℕ → ℕ → ℕ
mixed bank branch =
    (bank * 0x9e3779b97f4a7c15 % 2 ^ 64
    + branch * 0xc2b2ae3d27d4eb4f % 2 ^ 64) % 2 ^ 64 / 2 ^ 52 % 4096

-- The mark of a code.
unfoldable pub mark_of : List ℕ → ℕ
mark_of code = mixed (bank_of code) (branch_of code)

-- True if the participant with this number may be a holder of the mark.
abbrev pub is_among : ℕ → Holders → Bool
is_among number Nobody = false
is_among number (Only holder) = nat_eq holder number
is_among number Several = true

-- The holders of a code's mark.
abbrev pub holders_of : List ℕ → List Holders → Holders
holders_of code table = get_or table (mark_of code) Nobody

-- Each of the first n participants is among the holders of its code's mark.
abbrev pub TellsFirst : ℕ → List (List ℕ) → List Holders → Type 0
TellsFirst n codes table =
    (i : ℕ) → i < n → is_among i (holders_of (get_or codes i []) table) ≡ true

-- Each participant is among the holders of its code's mark.
abbrev pub TellsAll : List (List ℕ) → List Holders → Type 0
TellsAll codes table = TellsFirst (length codes) codes table
