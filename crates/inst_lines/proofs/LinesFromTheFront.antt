-- Lines from the front: the first one, and what is left.
use Rattle.std.proofs.Common.{◌≡◌, ℕ, ◌<◌, List, [], ◌∷◌, ◌++◌, length, refl, arith}
use Rattle.std.proofs.lemmas.Bool.{ne_eqb}
use Rattle.inst_base.specs.Newline.{newline, NoNewline}
use Rattle.inst_lines.specs.Lines.{lines_of, whole_lines_of}

-- the first line of bytes that begin with a line and its newline
pub lines_of-line : (line rest : List ℕ) → NoNewline line → lines_of (line ++ (newline ∷ rest)) ≡ line ∷ lines_of rest
lines_of-line [] rest none = refl
lines_of-line (b ∷ line) rest none = rw (ne_eqb b 10 none.0, lines_of-line line rest none.1) refl

pub whole_lines_of-line : (line rest : List ℕ) → NoNewline line → whole_lines_of (line ++ (newline ∷ rest)) ≡ line ∷ whole_lines_of rest
whole_lines_of-line [] rest none = refl
whole_lines_of-line (b ∷ line) rest none = rw (ne_eqb b 10 none.0, whole_lines_of-line line rest none.1) refl

-- a part with no newline is the one line, if it isn't empty, and no whole line
pub lines_of-part : (part : List ℕ) → NoNewline part → 0 < length part → lines_of part ≡ part ∷ []
lines_of-part [] none some = absurd (omega arith)
lines_of-part (b ∷ []) none some = rw (ne_eqb b 10 none.0) refl
lines_of-part (b ∷ c ∷ part) none some = rw (ne_eqb b 10 none.0, lines_of-part (c ∷ part) none.1 (omega arith)) refl

pub whole_lines_of-part : (part : List ℕ) → NoNewline part → whole_lines_of part ≡ []
whole_lines_of-part [] none = refl
whole_lines_of-part (b ∷ part) none = rw (ne_eqb b 10 none.0, whole_lines_of-part part none.1) refl
