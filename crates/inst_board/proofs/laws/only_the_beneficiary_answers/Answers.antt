use Rattle.inst_board.proofs.KnowledgeOfHolders.{only_beneficiary}
use Rattle.inst_board.proofs.laws.only_the_beneficiary_answers.Goals as goal

pub returns : goal.returns
returns g c = only_beneficiary 0 g.B.Board.knows g.B.Board.has_role g.met.B.Board.knows_one
