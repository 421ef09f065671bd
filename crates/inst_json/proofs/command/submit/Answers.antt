use Rattle.std.proofs.Common.{arith}
use Rattle.std.proofs.lemmas.Grind.{common_steps}
use Rattle.inst_json.specs.Commands.{submit_of}
use Rattle.inst_json.proofs.command.submit.Goals as goal

pub returns-in_err-cents-clause-value : goal.returns-in_err-cents-clause-value
unfolding submit_of
returns-in_err-cents-clause-value c = grind (arith, common_steps)

pub returns-in_err-stamp-clause-value : goal.returns-in_err-stamp-clause-value
unfolding submit_of
returns-in_err-stamp-clause-value c = grind (arith, common_steps)

pub returns-in_err-id-2-clause-value : goal.returns-in_err-id-2-clause-value
unfolding submit_of
returns-in_err-id-2-clause-value c = grind (arith, common_steps)
