use Rattle.inst_command.proofs.LineTextTellsLine.{line_tells}
use Rattle.inst_command.proofs.laws.a_text_tells_its_line.Goals as goal

pub returns : goal.returns
returns c = line_tells
