-- The text that a `LineText` writes. A choice of this hub.
use Rattle.std.specs.Prelude.{ℕ, List}
use Rattle.inst_command.specs.LineText.{line_text}
use Rattle.inst_command.specs.declared.layout.LineText.{LineText}

abbrev pub shown : LineText → List ℕ
shown text = line_text text.settings.now text.line.now
