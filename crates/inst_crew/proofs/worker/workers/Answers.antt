use Rattle.std.proofs.Common.{arith}
use Rattle.std.proofs.lemmas.Grind.{common_steps}
use Rattle.inst_crew.proofs.worker.workers.Goals as goal

pub loop-hand-preserved : goal.loop-hand-preserved
loop-hand-preserved c = grind (arith, common_steps)

pub returns-clause-hands : goal.returns-clause-hands
returns-clause-hands c = grind (arith, common_steps)

pub returns-clause-tellers : goal.returns-clause-tellers
returns-clause-tellers c = grind (arith, common_steps)
