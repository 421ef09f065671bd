use Rattle.inst_participant.proofs.BooksOverOneBoardFit.{books_fit}
use Rattle.inst_participant.proofs.laws.together_books_fit.Goals as goal

pub returns : goal.returns
returns g c = λ b s O books opened t. books_fit g.B.Board.settings g.B.Board.knows g.B.Board.has_role b s O opened books t
