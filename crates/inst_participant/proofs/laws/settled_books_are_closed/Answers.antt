use Rattle.inst_participant.proofs.BooksOverOneBoardFit.{are_closed}
use Rattle.inst_participant.proofs.laws.settled_books_are_closed.Goals as goal

pub returns : goal.returns
returns g c = λ b s O books opened t settled. are_closed g.B.Board.settings g.B.Board.knows g.B.Board.has_role b s O opened books t settled
