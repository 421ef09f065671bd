-- The effect of a read on an intake.
use Rattle.std.specs.Prelude.{◌≡◌, ℕ, ◌<◌, List, [], ◌++◌, map, length, Option}
use Rattle.std.specs.Io.KnownBytes.{Consumes, IsAtEnd}
use Rattle.inst_log.specs.Layout.{recovered_lines}
use Rattle.inst_logged.specs.Input.{shortened_line, logged_line}
use Rattle.inst_logged.specs.inner.Input.{lines_from, rest_from, last_line}
use Rattle.inst_logged.specs.declared.intake.Intake.{Intake}
use Rattle.inst_logged.specs.Intake.{line_part}

-- Bytes were read, the lines that end there were appended to a batch, and the part of a line after
-- them is held.
pub record TakesIn (old new : Intake) (before after : List ℕ) (left left' : Option (List ℕ)) : Type
    0 where
  pub read : List ℕ
  pub some : 0 < length read
  pub consumes : Consumes left left' read
  pub lines_are : (part : List ℕ) → line_part old ≡ shortened_line part →
      recovered_lines after ≡ recovered_lines before ++ map logged_line (lines_from part read)
  pub held_is : (part : List ℕ) → line_part old ≡ shortened_line part →
      line_part new ≡ shortened_line (rest_from part read)

-- The input is at its end, and the held part of a line was appended to the batch.
pub record TakesLast (old : Intake) (before after : List ℕ) (left left' : Option (List ℕ)) : Type 0
  where
    pub consumes : Consumes left left' []
    pub at_end : IsAtEnd left'
    pub lines_are : (part : List ℕ) → line_part old ≡ shortened_line part →
        recovered_lines after ≡ recovered_lines before ++ map logged_line (last_line part)
