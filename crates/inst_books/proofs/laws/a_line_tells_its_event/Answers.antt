use Rattle.inst_books.proofs.WrittenEventReadsBack.{line_tells}
use Rattle.inst_books.proofs.laws.a_line_tells_its_event.Goals as goal

pub returns : goal.returns
returns c = line_tells
