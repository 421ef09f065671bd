use Rattle.std.proofs.Common.{arith}
use Rattle.std.proofs.lemmas.Grind.{common_steps}
use Rattle.inst_settings.proofs.finder.Finder.new.Goals as goal

pub loop-code-preserved : goal.loop-code-preserved
loop-code-preserved c = grind (arith, common_steps)
