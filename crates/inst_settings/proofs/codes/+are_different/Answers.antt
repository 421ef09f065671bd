use Rattle.std.proofs.Common.{arith}
use Rattle.std.proofs.lemmas.Grind.{common_steps}
use Rattle.inst_settings.proofs.codes.+are_different.Goals as goal

pub returns-then-not-contains : goal.returns-then-not-contains
returns-then-not-contains t c = grind (arith, common_steps)

pub returns-else-not-contains : goal.returns-else-not-contains
returns-else-not-contains t c = grind (arith, common_steps)
