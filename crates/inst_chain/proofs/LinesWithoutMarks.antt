-- Lines without marks.
use Rattle.std.proofs.Common.{◌≡◌, Bool, true, false, ◌||◌, if◌then◌else◌, ℕ, List, [], ◌∷◌, ◌++◌, length, arith, refl, ◌∙◌, ap}
use Rattle.std.proofs.lemmas.List.{append-nil}
use Rattle.std.specs.Prelude.{bytes_eq}
use Rattle.inst_chain.specs.Chain.{is_mark, mark_of, mark_with, HasNoMark, has_mark, has_digest, said}
use Rattle.inst_chain.specs.declared.digest.Digest.{Digest}
use Rattle.std.proofs.lemmas.Bool.Decides.{nat_tests}
use Rattle.inst_log.specs.Escape.{raw_of}
use Rattle.sha2.specs.Sha256.{sha256}
use Rattle.sha2.proofs.Facts256.{length-sha256}
use Rattle.hex.specs.Hex.{lower_digits}
use Rattle.hex.proofs.HexLemmas.{length-encode_with}
use Rattle.inst_chain.proofs.Digests.{mark_is_mark}
use Rattle.inst_chain.proofs.Chains.{Lines}

either : (t : Bool) (line : List ℕ) (sum x y : Lines) → sum ≡ x ++ y → (if t then sum else line ∷ sum) ≡ (if t then x else line ∷ x) ++ y
either true line sum x y same = same
either false line sum x y same = ap (λ (l : Lines). line ∷ l) same

pub said-append : (a b : Lines) → said (a ++ b) ≡ said a ++ said b
said-append [] b = refl
said-append (line ∷ a) b = either (is_mark line) line (said (a ++ b)) (said a) (said b) (said-append a b)

pub said_plain : (lines : Lines) → HasNoMark lines → said lines ≡ lines
said_plain [] none = refl
said_plain (line ∷ lines) none =
    ap (λ (t : Bool). if t then said lines else line ∷ said lines) none.0 ∙ ap (λ (l : Lines). line ∷ l) (said_plain lines none.1)

or_left : (a b : Bool) → (a || b) ≡ false → a ≡ false
or_left true b none = none
or_left false b none = refl

or_right : (a b : Bool) → (a || b) ≡ false → b ≡ false
or_right true b none = absurd (cc none)
or_right false b none = none

pub no_mark : (lines : Lines) → has_mark lines ≡ false → HasNoMark lines
no_mark [] none = tt
no_mark (line ∷ lines) none = (or_left (is_mark line) (has_mark lines) none, no_mark lines (or_right (is_mark line) (has_mark lines) none))

-- a mark behind lines
pub said_behind : (lines : Lines) (mark : List ℕ) → is_mark mark ≡ true → said (lines ++ mark ∷ []) ≡ said lines
said_behind lines mark is =
    said-append lines (mark ∷ []) ∙ ap (λ (l : Lines). said lines ++ l) (ap (λ (t : Bool). if t then [] else mark ∷ []) is) ∙ append-nil (said lines)

pub said_mark : (text : List ℕ) → said (mark_of text ∷ []) ≡ []
said_mark text = ap (λ (t : Bool). if t then [] else mark_of text ∷ []) (mark_is_mark text)

-- a digest among some lines and others
or_more : (a b c : Bool) → a || (b || c) ≡ (a || b) || c
or_more true b c = refl
or_more false b c = refl

pub has_digest-append : (digest : Digest) (a b : Lines) → has_digest digest (a ++ b) ≡ has_digest digest a || has_digest digest b
has_digest-append digest [] b = refl
has_digest-append digest (line ∷ a) b =
    let here = bytes_eq line (mark_with digest.text) in
    ap (λ (t : Bool). here || t) (has_digest-append digest a b) ∙ or_more here (has_digest digest a) (has_digest digest b)

-- lines with a mark behind them
pub said_marked : (lines : Lines) (text : List ℕ) → HasNoMark lines → said (lines ++ mark_of text ∷ []) ≡ lines
said_marked lines text none =
    said-append lines (mark_of text ∷ []) ∙ (λ i. said_plain lines none i ++ said_mark text i) ∙ append-nil lines

pub HasNoMark-append : (a b : Lines) → HasNoMark a → HasNoMark b → HasNoMark (a ++ b)
HasNoMark-append [] b none more = more
HasNoMark-append (line ∷ a) b none more = (none.0, HasNoMark-append a b none.1 more)

-- no line that was read is written as a mark is
pub raw_plain : (line : List ℕ) → is_mark (raw_of line) ≡ false
raw_plain [] = refl
raw_plain (a ∷ []) = grind (arith, nat_tests)
raw_plain (a ∷ b ∷ []) = grind (arith, nat_tests)
raw_plain (a ∷ b ∷ c ∷ []) = grind (arith, nat_tests)
raw_plain (a ∷ b ∷ c ∷ d ∷ rest) = grind (arith, nat_tests)

-- how long a mark is
pub length-mark_of : (text : List ℕ) → length (mark_of text) ≡ 67
length-mark_of text = omega (arith, length-encode_with lower_digits (sha256 text), length-sha256 text)
