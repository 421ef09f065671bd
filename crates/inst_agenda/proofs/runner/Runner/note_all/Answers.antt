use Rattle.std.proofs.Common.{arith}
use Rattle.std.proofs.lemmas.Grind.{elements}
use Rattle.inst_agenda.proofs.runner.Runner.note_all.Goals as goal

pub returns-then-is_none-clause-noted : goal.returns-then-is_none-clause-noted
returns-then-is_none-clause-noted c = grind (arith, elements)
