use Rattle.inst_board.proofs.DecisionsStay.{own_reading}
use Rattle.inst_board.proofs.laws.only_own_readings_are_learnt.Goals as goal

pub returns : goal.returns
returns g c = λ margin. own_reading margin g.B.Board.knows g.B.Board.has_role g.B.Board.stood
