use Rattle.inst_board.proofs.KnowledgeOfHolders.{answers_stand}
use Rattle.inst_board.proofs.laws.own_answers_stand.Goals as goal

pub returns : goal.returns
returns g c = λ margin. answers_stand margin g.B.Board.knows g.B.Board.has_role g.B.Board.stood g.met.B.Board.stood_seldom
