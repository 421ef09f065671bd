use Rattle.std.proofs.Common.{rules}
use Rattle.inst_board.proofs.wish.Wish.outcome.Goals as goal

pub returns-in-Accept : goal.returns-in-Accept
returns-in-Accept c = search rules
