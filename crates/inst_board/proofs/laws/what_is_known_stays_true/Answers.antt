use Rattle.inst_board.proofs.KnowledgeOfHolders.{stays_true}
use Rattle.inst_board.proofs.laws.what_is_known_stays_true.Goals as goal

pub returns : goal.returns
returns g c = λ margin. stays_true margin g.B.Board.knows
