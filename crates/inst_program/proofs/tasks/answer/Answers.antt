use Rattle.std.proofs.Common.{rules}
use Rattle.inst_program.proofs.tasks.answer.Goals as goal

pub returns-in_ok-answer_unkept-in-None-clause-ok : goal.returns-in_ok-answer_unkept-in-None-clause-ok
returns-in_ok-answer_unkept-in-None-clause-ok g c = search rules
