use Rattle.inst_participant.proofs.BooksOverOneBoardFit.{in_the_books}
use Rattle.inst_participant.proofs.laws.what_is_known_is_told.Goals as goal

pub returns : goal.returns
returns g c = λ b s O books opened t settled k below kn. in_the_books g.B.Board.settings g.B.Board.knows g.B.Board.has_role b s O opened books t settled k below kn
