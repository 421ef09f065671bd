use Rattle.std.proofs.Common.{arith}
use Rattle.std.proofs.lemmas.Grind.{common_steps}
use Rattle.inst_journal.proofs.statement.lines_part.Goals as goal

pub returns-then-skip-len : goal.returns-then-skip-len
returns-then-skip-len c = grind (arith, common_steps)

pub returns : goal.returns
returns c = grind (arith, common_steps)
