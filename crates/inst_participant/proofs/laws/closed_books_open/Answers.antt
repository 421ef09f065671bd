use Rattle.inst_participant.proofs.HistoryFitsMoreParticipants.{closed_wider, open_next, open_wider}
use Rattle.inst_participant.proofs.laws.closed_books_open.Goals as goal

pub returns : goal.returns
returns c = record { wider = closed_wider; next = open_next; open_wider = open_wider }
