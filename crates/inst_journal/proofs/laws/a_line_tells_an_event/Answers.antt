use Rattle.inst_journal.proofs.LineTellsAnEvent.{line_tells}
use Rattle.inst_journal.proofs.laws.a_line_tells_an_event.Goals as goal

pub returns : goal.returns
returns c = line_tells
