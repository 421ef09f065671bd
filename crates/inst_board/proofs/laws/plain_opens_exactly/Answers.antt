use Rattle.inst_board.proofs.PromisesExactOnPlainBoard.{opens_exactly}
use Rattle.inst_board.proofs.laws.plain_opens_exactly.Goals as goal

pub returns : goal.returns
returns c = λ b. opens_exactly b.settings.margin b
