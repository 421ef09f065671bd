use Rattle.inst_program.proofs.LogAfterVisit.{nothing_happened}
use Rattle.inst_program.proofs.drilling.drill_hub.Goals as goal

pub returns-in-Some-clause-ok : goal.returns-in-Some-clause-ok
returns-in-Some-clause-ok g c = rw c.in-Some.is c.drill_to_file.ensures.ok

pub returns-in_ok-run_drill-in-None-clause-ok : goal.returns-in_ok-run_drill-in-None-clause-ok
returns-in_ok-run_drill-in-None-clause-ok g c =
    rw c.in-None.is (c.in_ok-run_drill-in-None.field-0, c.in_ok-run_drill-in-None.ensures.ok, nothing_happened (g.L.Logs.files c.args.logs.now))
