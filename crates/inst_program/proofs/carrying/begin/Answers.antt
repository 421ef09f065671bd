use Rattle.std.proofs.Common.{inl}
use Rattle.std.proofs.lemmas.Result.{IfErr-weaker, err_from_is_err_and, on_ok_weaker, on_err_weaker}
use Rattle.inst_program.proofs.CausesOfUnclosedHub.{unbegun_in}
use Rattle.inst_program.proofs.PassedOnOutcome.{err_all_at}
use Rattle.inst_program.proofs.Statuses.{in_use_or}
use Rattle.inst_program.specs.inner.Visiting.{IsVisitedAs}
use Rattle.inst_program.proofs.LogAfterVisit.{begun_in, safe_in, visited}
use Rattle.inst_program.proofs.carrying.begin.Goals as goal

pub returns-clause-ok : goal.returns-clause-ok
returns-clause-ok g c =
    let old = g.L.Logs.files c.args.logs.now in
    let new = g.L.Logs.files c.close.new.self in
    let disk = c.in_ok-disk.disk in
    let disk' = c.begin_on-disk.result.1 in
    let v : IsVisitedAs g.L.Log.Disk old new c.args.to.now disk disk' = visited g.L.Log.Disk old _ new c.args.to.now disk disk' c.in_ok-disk.ensures.opened c.close.ensures.closed c.close.ensures.clean in
    on_ok_weaker c.begin_on-disk.result.0 (λ is. begun_in g.L.Log.Disk old new c.args.to.now disk disk' v _ is) c.begin_on-disk.ensures.ok

pub returns-clause-err : goal.returns-clause-err
returns-clause-err g c =
    let old = g.L.Logs.files c.args.logs.now in
    let new = g.L.Logs.files c.close.new.self in
    let disk = c.in_ok-disk.disk in
    let disk' = c.begin_on-disk.result.1 in
    let v : IsVisitedAs g.L.Log.Disk old new c.args.to.now disk disk' = visited g.L.Log.Disk old _ new c.args.to.now disk disk' c.in_ok-disk.ensures.opened c.close.ensures.closed c.close.ensures.clean in
    on_err_weaker c.begin_on-disk.result.0 (λ is. safe_in g.L.Log.Disk old new c.args.to.now disk disk' v _ is) c.begin_on-disk.ensures.err

pub returns-clause-visited : goal.returns-clause-visited
returns-clause-visited g c =
    (visited g.L.Log.Disk (g.L.Logs.files c.args.logs.now) _ (g.L.Logs.files c.close.new.self) c.args.to.now c.in_ok-disk.disk c.begin_on-disk.result.1
    c.in_ok-disk.ensures.opened c.close.ensures.closed c.close.ensures.clean).visit

pub returns-in_err-disk-clause-refused : goal.returns-in_err-disk-clause-refused
returns-in_err-disk-clause-refused g c =
    err_all_at c.from_residual.result _ (err_from_is_err_and c.from_residual.result c.from_residual.ensures.1)
    (λ e is two. inl (in_use_or _ c.in_err-disk.field-0.0 e is c.in_err-disk.ensures.cause two))

pub returns-clause-refused : goal.returns-clause-refused
returns-clause-refused g c =
    let old = g.L.Logs.files c.args.logs.now in
    let new = g.L.Logs.files c.close.new.self in
    let disk = c.in_ok-disk.disk in
    let disk' = c.begin_on-disk.result.1 in
    let v : IsVisitedAs g.L.Log.Disk old new c.args.to.now disk disk' = visited g.L.Log.Disk old _ new c.args.to.now disk disk' c.in_ok-disk.ensures.opened c.close.ensures.closed c.close.ensures.clean in
    IfErr-weaker c.begin_on-disk.result.0 _ _ (λ e is two. unbegun_in g.L.Log.Disk old new c.args.to.now disk disk' v _ _ (is two)) c.begin_on-disk.ensures.refused
