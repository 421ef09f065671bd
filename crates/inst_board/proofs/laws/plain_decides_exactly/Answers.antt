use Rattle.inst_board.proofs.PromisesExactOnPlainBoard.{decides_exactly}
use Rattle.inst_board.proofs.laws.plain_decides_exactly.Goals as goal

pub returns : goal.returns
returns c = λ b. decides_exactly b.settings.margin b
