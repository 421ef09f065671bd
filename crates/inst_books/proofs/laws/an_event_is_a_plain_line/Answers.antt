use Rattle.inst_books.proofs.WrittenEventReadsBack.{plain_line}
use Rattle.inst_books.proofs.laws.an_event_is_a_plain_line.Goals as goal

pub returns : goal.returns
returns c = plain_line
