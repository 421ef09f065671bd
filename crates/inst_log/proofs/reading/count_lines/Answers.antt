use Rattle.std.proofs.Common.{arith}
use Rattle.std.proofs.lemmas.Grind.{common_steps}
use Rattle.inst_log.proofs.reading.count_lines.Goals as goal

pub loop-len-preserved : goal.loop-len-preserved
loop-len-preserved c = grind (arith, common_steps)
