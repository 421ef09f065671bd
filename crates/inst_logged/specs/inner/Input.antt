-- Cutting bytes into lines, after a part of a line.
use Rattle.std.specs.Prelude.{◌≡◌, ℕ, ◌≤◌, List, [], ◌∷◌, ◌++◌, map, length, drop, ◌==◌}
use Rattle.std.specs.Prelude.{if◌then◌else◌}
use Rattle.inst_base.specs.Newline.{newline}
use Rattle.inst_log.specs.Layout.{recovered_lines, AreWholeLines}
use Rattle.inst_logged.specs.Input.{logged_line}

-- The lines that end in these bytes, which follow a part of a line.
abbrev pub lines_from : List ℕ → List ℕ → List (List ℕ)
lines_from part [] = []
lines_from part (b ∷ bytes) =
    if b == newline then part ∷ lines_from [] bytes else lines_from (part ++ b ∷ []) bytes

-- The part of a line that is left after them.
abbrev pub rest_from : List ℕ → List ℕ → List ℕ
rest_from part [] = part
rest_from part (b ∷ bytes) =
    if b == newline then rest_from [] bytes else rest_from (part ++ b ∷ []) bytes

-- A part of a line is a line at the end of the input, unless it is empty.
abbrev pub last_line : List ℕ → List (List ℕ)
last_line [] = []
last_line (b ∷ part) = (b ∷ part) ∷ []

-- The bytes are these lines, each with its newline, and then the bytes from `start`.
pub record CutsLines (bytes : List ℕ) (start : ℕ) (before after : List ℕ) : Type 0 where
  pub within : start ≤ length bytes
  pub rest_is : drop start bytes ≡ rest_from [] bytes
  pub whole : AreWholeLines after
  pub lines_are : recovered_lines after
      ≡ recovered_lines before ++ map logged_line (lines_from [] bytes)
