use Rattle.std.proofs.Common.{arith}
use Rattle.std.proofs.lemmas.Grind.{elements}
use Rattle.inst_row.proofs.row.opening.spread.Goals as goal

pub loop-value-preserved-in-Some : goal.loop-value-preserved-in-Some
loop-value-preserved-in-Some g c = grind (arith, elements)

pub loop-value-preserved : goal.loop-value-preserved
loop-value-preserved g c = grind (arith, elements)
