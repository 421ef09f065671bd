use Rattle.std.proofs.Common.{arith}
use Rattle.std.proofs.lemmas.Grind.{common_steps}
use Rattle.inst_json.proofs.scanning.parts.plain_end_slowly.Goals as goal

pub loop-at-preserved : goal.loop-at-preserved
loop-at-preserved c = grind (arith, common_steps)

pub returns-else-text-at-lt128-clause-value : goal.returns-else-text-at-lt128-clause-value
returns-else-text-at-lt128-clause-value c = grind (arith, common_steps)

pub returns-else-text-at-ge32-clause-value : goal.returns-else-text-at-ge32-clause-value
returns-else-text-at-ge32-clause-value c = grind (arith, common_steps)

pub returns-else-text-at-ne92-clause-value : goal.returns-else-text-at-ne92-clause-value
returns-else-text-at-ne92-clause-value c = grind (arith, common_steps)

pub returns-else-text-at-ne34-clause-value : goal.returns-else-text-at-ne34-clause-value
returns-else-text-at-ne34-clause-value c = grind (arith, common_steps)

pub returns-after-loop-at-clause-value : goal.returns-after-loop-at-clause-value
returns-after-loop-at-clause-value c = grind (arith, common_steps)
