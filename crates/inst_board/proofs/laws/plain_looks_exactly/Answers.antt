use Rattle.inst_board.proofs.PromisesExactOnPlainBoard.{looks_exactly}
use Rattle.inst_board.proofs.laws.plain_looks_exactly.Goals as goal

pub returns : goal.returns
returns c = λ b. looks_exactly b.settings.margin b
