use Rattle.inst_board.proofs.DecisionsStay.{decided_once}
use Rattle.inst_board.proofs.laws.decided_once.Goals as goal

pub returns : goal.returns
returns g c = λ margin. decided_once margin g.B.Board.knows g.B.Board.stood
