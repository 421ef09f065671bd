use Rattle.inst_command.proofs.LineTextTellsLine.{line_length}
use Rattle.inst_command.proofs.laws.each_line_has_91_characters.Goals as goal

pub returns : goal.returns
returns c = line_length
