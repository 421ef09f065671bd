use Rattle.inst_books.proofs.WrittenEventReadsBack.{line_reads_back}
use Rattle.inst_books.proofs.laws.an_event_reads_back.Goals as goal

pub returns : goal.returns
returns c = line_reads_back
