use Rattle.std.proofs.Common.{rules}
use Rattle.inst_board.proofs.plain.PlainBoard.has.Goals as goal

pub returns-then-from-self : goal.returns-then-from-self
returns-then-from-self c = search rules
