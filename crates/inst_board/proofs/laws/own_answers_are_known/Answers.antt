use Rattle.inst_board.proofs.KnowledgeOfHolders.{own_answers}
use Rattle.inst_board.proofs.laws.own_answers_are_known.Goals as goal

pub returns : goal.returns
returns g c = λ margin. own_answers margin g.B.Board.knows g.B.Board.has_role g.B.Board.stood
