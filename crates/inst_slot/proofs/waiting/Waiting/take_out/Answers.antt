use Rattle.std.proofs.Common.{arith}
use Rattle.std.proofs.lemmas.Grind.{elements}
use Rattle.inst_slot.proofs.waiting.Waiting.take_out.Goals as goal

pub returns-in-Some-clause-pairs : goal.returns-in-Some-clause-pairs
returns-in-Some-clause-pairs c = grind (arith, elements)

pub returns-in_default-clause-pairs : goal.returns-in_default-clause-pairs
returns-in_default-clause-pairs c = grind (arith, elements)
