use Rattle.inst_board.proofs.DecisionsStay.{decided_now}
use Rattle.inst_board.proofs.laws.each_decision_is_of_its_reading.Goals as goal

pub returns : goal.returns
returns g c = λ margin. decided_now margin g.B.Board.knows g.B.Board.stood
