use Rattle.std.proofs.Common.{inl, inr, refl}
use Rattle.std.proofs.lemmas.Result.{err_from_is_err_and}
use Rattle.inst_program.proofs.PassedOnOutcome.{err_all_at}
use Rattle.inst_program.proofs.DrillWithScript.{drills_in, undrilled_in}
use Rattle.inst_program.proofs.Statuses.{in_use_or}
use Rattle.inst_program.specs.inner.Visiting.{IsVisitedAs}
use Rattle.inst_program.proofs.LogAfterVisit.{others_untouched, visited}
use Rattle.inst_program.proofs.drilling.drill_to_file.Goals as goal

pub returns-clause-ok : goal.returns-clause-ok
returns-clause-ok g c =
    let old = g.L.Logs.files c.args.logs.now in
    let new = g.L.Logs.files c.close.new.self in
    let disk = c.in_ok-disk.disk in
    let disk' = c.drill_to-disk.result.1 in
    let v : IsVisitedAs g.L.Log.Disk old new c.args.path.now disk disk' = visited g.L.Log.Disk old _ new c.args.path.now disk disk' c.in_ok-disk.ensures.opened c.close.ensures.closed c.close.ensures.clean in
    drills_in old new c.args.path.now g.L.Log.Disk disk disk' c.args.asked _ _ _ c.drill_to-disk.result.0 v c.drill_to-disk.ensures.scripted

pub returns-clause-err : goal.returns-clause-err
returns-clause-err g c =
    let old = g.L.Logs.files c.args.logs.now in
    let new = g.L.Logs.files c.close.new.self in
    let disk = c.in_ok-disk.disk in
    let disk' = c.drill_to-disk.result.1 in
    let v : IsVisitedAs g.L.Log.Disk old new c.args.path.now disk disk' = visited g.L.Log.Disk old _ new c.args.path.now disk disk' c.in_ok-disk.ensures.opened c.close.ensures.closed c.close.ensures.clean in
    undrilled_in old new c.args.path.now g.L.Log.Disk disk disk' c.args.asked _ _ _ c.drill_to-disk.result.0 v c.drill_to-disk.ensures.scripted

pub returns-clause-all_in : goal.returns-clause-all_in
returns-clause-all_in g c =
    (visited g.L.Log.Disk (g.L.Logs.files c.args.logs.now) _ (g.L.Logs.files c.close.new.self) c.args.path.now c.in_ok-disk.disk c.drill_to-disk.result.1
    c.in_ok-disk.ensures.opened c.close.ensures.closed c.close.ensures.clean).visit.all_in

pub returns-in_err-disk-clause-err : goal.returns-in_err-disk-clause-err
returns-in_err-disk-clause-err g c =
    err_all_at c.from_residual.result _ (err_from_is_err_and c.from_residual.result c.from_residual.ensures.1)
    (λ e is. record {
      refused = λ two. (refl, c.in_err-disk.ensures.opened.all, inr (inl (in_use_or _ c.in_err-disk.field-0.0 e is c.in_err-disk.ensures.cause two)));
      failed = λ three. ((λ kept some. c.in_err-disk.ensures.opened.all kept c.args.path.now), others_untouched _ _ c.in_err-disk.ensures.opened c.args.path.now);
    })
