use Rattle.std.proofs.Common.{arith}
use Rattle.std.proofs.lemmas.Grind.{common_steps, elements}
use Rattle.inst_lines.proofs.line_buffer.LineBuffer.drop_line.Goals as goal

pub overflow_add-self : goal.overflow_add-self
overflow_add-self c = grind (arith, common_steps)

pub overflow_add-self-2 : goal.overflow_add-self-2
overflow_add-self-2 c = grind (arith, common_steps)

pub returns-clause-held : goal.returns-clause-held
returns-clause-held c = grind (arith, elements)
