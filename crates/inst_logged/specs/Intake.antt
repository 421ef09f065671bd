-- The part of a line that an intake holds. A choice of this hub.
use Rattle.std.specs.Prelude.{ℕ, List, take}
use Rattle.inst_logged.specs.declared.intake.Intake.{Intake}

-- The bytes that are held of a line.
abbrev pub line_part : Intake → List ℕ
line_part intake = take intake.len intake.bytes.items
