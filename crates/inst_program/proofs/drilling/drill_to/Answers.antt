use Rattle.inst_program.proofs.DrillWithScript.{scripted, steps_fit}
use Rattle.inst_program.proofs.drilling.drill_to.Goals as goal

pub returns-in-Ok-clause-scripted : goal.returns-in-Ok-clause-scripted
returns-in-Ok-clause-scripted g c =
    let wrote = c.write_script-outcome.ensures in
    scripted g.D.Disk c.args.asked _ _ _ c.args.disk c.is_empty.new.disk c.write_script-outcome.new.disk c.in-Ok.left c.write_script-outcome.result c.in-Ok.ensures.ok c.is_empty.ensures.read
    (λ kept. c.in-Ok-true.ensures.empty kept c.in-Ok-true.field-0-test) wrote.written wrote.durable wrote.clean wrote.failed

pub write_script-outcome-requires-clause-steps : goal.write_script-outcome-requires-clause-steps
write_script-outcome-requires-clause-steps g c = steps_fit c.args.asked.settings c.args.asked.openings _ _ c.in-Ok.left c.in-Ok.ensures.ok
