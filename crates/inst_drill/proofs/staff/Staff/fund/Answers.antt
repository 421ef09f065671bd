use Rattle.std.proofs.Common.{arith}
use Rattle.std.proofs.lemmas.Grind.{common_steps}
use Rattle.inst_drill.proofs.staff.Staff.fund.Goals as goal

pub call-requires-clause-fits : goal.call-requires-clause-fits
call-requires-clause-fits g c = c.in_ok-ask.ensures c.args.hub.now.settings c.requires.plan

pub returns-in_err-call : goal.returns-in_err-call
returns-in_err-call g c = grind (arith, common_steps)

pub returns : goal.returns
returns g c = grind (arith, common_steps)
