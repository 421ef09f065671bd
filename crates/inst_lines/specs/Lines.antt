-- The lines of bytes, and the limits on them. A choice of this hub.
use Rattle.std.specs.Prelude.{ℕ, ◌≤◌, List, [], ◌∷◌, length, take, ◌==◌, if◌then◌else◌}
use Rattle.inst_base.specs.Newline.{newline, onto_whole}
use Rattle.inst_lines.specs.Limits.{most_lines, most_bytes}

-- The byte is put before the first line, which is a new one if there is none.
abbrev pub onto_first : ℕ → List (List ℕ) → List (List ℕ)
onto_first b [] = (b ∷ []) ∷ []
onto_first b (line ∷ lines) = (b ∷ line) ∷ lines

-- The parts between newlines. What follows the last newline is a line if it isn't empty.
abbrev pub lines_of : List ℕ → List (List ℕ)
lines_of [] = []
lines_of (b ∷ bytes) = if b == newline then [] ∷ lines_of bytes else onto_first b (lines_of bytes)

-- The lines that end with a newline.
abbrev pub whole_lines_of : List ℕ → List (List ℕ)
whole_lines_of [] = []
whole_lines_of (b ∷ bytes) =
    if b == newline then [] ∷ whole_lines_of bytes else onto_whole b (whole_lines_of bytes)

-- The lines whose newline is within the limits of a run.
abbrev pub whole_lines_within : List ℕ → List (List ℕ)
whole_lines_within bytes = take most_lines (whole_lines_of (take most_bytes bytes))

-- The bytes and their lines are within the limits of a run.
pub record IsWithinLimits (bytes : List ℕ) : Type 0 where
  pub bytes_fit : length bytes ≤ most_bytes
  pub lines_fit : length (lines_of bytes) ≤ most_lines
