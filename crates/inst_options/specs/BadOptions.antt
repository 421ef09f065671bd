-- The option that is named if no hub can have what the options choose, and the allowed values. A
-- choice of this hub.
use Rattle.std.specs.Prelude.{◌≡◌, ◌⊎◌, ℕ, ◌<◌, ◌≤◌, ◌^◌, true, false, List, [], ◌∷◌, slice_get}
use Rattle.std.specs.Prelude.{Some, codes}
use Rattle.clap.specs.Words.{Row, first_of}
use Rattle.inst_chain.specs.Chain.{is_digest}
use Rattle.inst_options.specs.Options.{Gives, IsFlag, NamesNoLog}
use Rattle.inst_options.specs.declared.bad_option.BadOption.{BadOption}
use Rattle.inst_options.specs.declared.texts.TheConstants.{PARTICIPANTS, DIGEST}

-- The range of an option that is a number, and its words.
pub record Range : Type 0 where
  pub name : List ℕ
  pub least : ℕ
  pub most : ℕ
  pub words : List ℕ

-- This range.
abbrev pub range : List ℕ → ℕ → ℕ → List ℕ → Range
range name least most words = record { name = name; least = least; most = most; words = words }

-- The ranges, in the order in which they are checked.
abbrev pub ranges : List Range
ranges =
    range (codes "places") 1 1024 (codes "1 to 1024")
    ∷ range (codes "fundings") 1 1024 (codes "1 to 1024")
    ∷ range (codes "limit") 1 3600000 (codes "1 to 3600000")
    ∷ range (codes "ahead") 0 60000 (codes "0 to 60000")
    ∷ range (codes "ceiling") 1 99999999999 (codes "1 to 99999999999")
    ∷ range (codes "base") 0 4611686018427387904 (codes "0 to 4611686018427387904 (2^62)")
    ∷ range (codes "transfers") 1 1024 (codes "1 to 1024 and at most --places")
    ∷ range (codes "openings") 1 10 (codes "1 to 10")
    ∷ []

-- The option's number is out of the range.
abbrev pub IsOutside : List Row → Range → Type 0
IsOutside rows r = (n : ℕ) × Gives rows r.name n × ((n < r.least) ⊎ (r.most < n))

-- The option's number, if it has one of 64 bits, is in the range.
abbrev pub IsInside : List Row → Range → Type 0
IsInside rows r = (n : ℕ) → Gives rows r.name n → n < 2 ^ 64 → (r.least ≤ n) × (n ≤ r.most)

-- Each number is in its range.
abbrev pub AreInside : List Row → Type 0
AreInside rows = (i : ℕ) (r : Range) → slice_get ranges i ≡ Some r → IsInside rows r

-- The margin isn't below the limit.
abbrev pub IsMarginTooLarge : List Row → Type 0
IsMarginTooLarge rows =
    (limit : ℕ) × (margin : ℕ) × Gives rows (codes "limit") limit
    × Gives rows (codes "margin") margin × (limit ≤ margin)

-- The option is about a log, and no log is named.
abbrev pub IsWithoutItsLog : List Row → List ℕ → Type 0
IsWithoutItsLog rows name = NamesNoLog rows
    × ((name ≡ codes "told")
    ⊎ ((name ≡ codes "digest") ⊎ ((name ≡ codes "resume") × IsFlag (codes "resume") rows true)))

-- Why an option is bad, and the allowed values. `by_codes`: each number is in its range, so the
-- participants are named.
pub data IsBad (rows : List Row) (name value words : List ℕ) : Type 0 where
  by_range : (i : ℕ) (r : Range) → slice_get ranges i ≡ Some r → name ≡ r.name → words ≡ r.words →
      IsOutside rows r → IsBad rows name value words
  by_limit : name ≡ codes "margin" → words ≡ codes "less than --limit" →
      IsMarginTooLarge rows → IsBad rows name value words
  by_form : name ≡ codes "digest" → words ≡ DIGEST.now → is_digest value ≡ false →
      IsBad rows name value words
  by_log : words ≡ codes "given together with --log" → IsWithoutItsLog rows name →
      IsBad rows name value words
  by_codes : name ≡ codes "participants" → words ≡ PARTICIPANTS.now → AreInside rows →
      IsBad rows name value words

-- The option has this value, and is bad.
pub record IsBadOption (rows : List Row) (bad : BadOption) : Type 0 where
  pub given : first_of bad.name.now rows ≡ Some bad.value.now
  pub because : IsBad rows bad.name.now bad.value.now bad.range.now
