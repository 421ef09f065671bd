use Rattle.std.proofs.Common.{inl, inr, refl}
use Rattle.std.proofs.lemmas.Result.{IfOk-at_ok, err_from_is_err_and}
use Rattle.inst_program.specs.inner.Visiting.{IsVisitedAs}
use Rattle.inst_program.proofs.FirstLine.{absent_untaken}
use Rattle.inst_program.proofs.PassedOnOutcome.{err_all_at, passed_err}
use Rattle.inst_program.proofs.Statuses.{in_use_or, memory_is_no_refusal, no_refusal}
use Rattle.inst_program.proofs.LogAfterVisit.{keeps_in, opened_behind, others_untouched, unkept_in, unkept_untouched, untouched_behind, visited}
use Rattle.inst_program.proofs.keeping.keep.Goals as goal

pub returns-in_err-disk-clause-others : goal.returns-in_err-disk-clause-others
returns-in_err-disk-clause-others g c =
    others_untouched _ _ (untouched_behind _ _ _ c.is_missing.ensures.untouched c.in_err-disk.ensures.opened) c.args.log.path.now

pub returns-in_err-is_missing-clause-err : goal.returns-in_err-is_missing-clause-err
returns-in_err-is_missing-clause-err g c =
    err_all_at c.from_residual.result _ (err_from_is_err_and c.from_residual.result c.from_residual.ensures.1)
    (λ e is. unkept_untouched _ _ c.in_err-is_missing.ensures.untouched _ _ _ _ c.args.log.path.now _ refl refl
    (λ two. absurd (no_refusal c.in_err-is_missing.field-0.0 e is c.in_err-is_missing.ensures.cause two)))

pub returns-then-branch-clause-err : goal.returns-then-branch-clause-err
returns-then-branch-clause-err g c =
    let missing = c.in_ok-is_missing.ensures.missing c.if-branch.true in
    unkept_untouched _ _ c.is_missing.ensures.untouched _ _ _ _ c.args.log.path.now _ refl refl
    (λ _. inr (λ is. absent_untaken _ _ _ ((c.is_missing.ensures.untouched.all is c.args.log.path.now).same) (missing.1 is) missing.0))

pub returns-in_err-wanted-clause-err : goal.returns-in_err-wanted-clause-err
returns-in_err-wanted-clause-err g c =
    err_all_at c.from_residual-in_err-wanted.result _ (err_from_is_err_and c.from_residual-in_err-wanted.result c.from_residual-in_err-wanted.ensures.1)
    (λ e is. unkept_untouched _ _ c.is_missing.ensures.untouched _ _ _ _ c.args.log.path.now _ refl refl (λ two. absurd (memory_is_no_refusal e is two)))

pub returns-in_err-disk-clause-err : goal.returns-in_err-disk-clause-err
returns-in_err-disk-clause-err g c =
    err_all_at c.from_residual-in_err-disk.result _ (err_from_is_err_and c.from_residual-in_err-disk.result c.from_residual-in_err-disk.ensures.1)
    (λ e is. unkept_untouched _ _ (untouched_behind _ _ _ c.is_missing.ensures.untouched c.in_err-disk.ensures.opened) _ _ _ _ c.args.log.path.now _ refl refl
    (λ two. inl (in_use_or _ c.in_err-disk.field-0.0 e is c.in_err-disk.ensures.cause two)))

pub returns-in_err-runner-clause-err : goal.returns-in_err-runner-clause-err
returns-in_err-runner-clause-err g c =
    let old = g.L.Logs.files c.args.logs.now in
    let new = g.L.Logs.files c.close.new.self in
    let v : IsVisitedAs g.L.Log.Disk old new c.args.log.path.now c.in_ok-disk.disk c.keep_on-outcome.result.1 =
    visited g.L.Log.Disk old _ new c.args.log.path.now c.in_ok-disk.disk c.keep_on-outcome.result.1
    (opened_behind old _ _ _ _ _ c.is_missing.ensures.untouched c.in_ok-disk.ensures.opened) c.close.ensures.closed c.close.ensures.clean in
    passed_err c.keep_on-outcome.result.0 c.from_residual-in_err-runner.result c.in_err-runner.field-0.0 _ _ c.in_err-runner.was
    (err_from_is_err_and c.from_residual-in_err-runner.result c.from_residual-in_err-runner.ensures.1)
    (λ e is. unkept_in g.L.Log.Disk old new c.args.log.path.now c.in_ok-disk.disk c.keep_on-outcome.result.1 v _ _ _ _ _ _ (g.met.L.Logs.mixing c.args.logs.now) is) c.keep_on-outcome.ensures.err

pub returns-in_err-runner-clause-others : goal.returns-in_err-runner-clause-others
returns-in_err-runner-clause-others g c =
    (visited g.L.Log.Disk (g.L.Logs.files c.args.logs.now) _ (g.L.Logs.files c.close.new.self) c.args.log.path.now c.in_ok-disk.disk c.keep_on-outcome.result.1
    (opened_behind _ _ _ _ _ _ c.is_missing.ensures.untouched c.in_ok-disk.ensures.opened) c.close.ensures.closed c.close.ensures.clean).visit.others

pub returns-in_err-runner-clause-all_in : goal.returns-in_err-runner-clause-all_in
returns-in_err-runner-clause-all_in g c =
    (visited g.L.Log.Disk (g.L.Logs.files c.args.logs.now) _ (g.L.Logs.files c.close.new.self) c.args.log.path.now c.in_ok-disk.disk c.keep_on-outcome.result.1
    (opened_behind _ _ _ _ _ _ c.is_missing.ensures.untouched c.in_ok-disk.ensures.opened) c.close.ensures.closed c.close.ensures.clean).visit.all_in

pub returns-clause-ok : goal.returns-clause-ok
returns-clause-ok g c =
    let old = g.L.Logs.files c.args.logs.now in
    let new = g.L.Logs.files c.close.new.self in
    let v : IsVisitedAs g.L.Log.Disk old new c.args.log.path.now c.in_ok-disk.disk c.keep_on-outcome.result.1 =
    visited g.L.Log.Disk old _ new c.args.log.path.now c.in_ok-disk.disk c.keep_on-outcome.result.1
    (opened_behind old _ _ _ _ _ c.is_missing.ensures.untouched c.in_ok-disk.ensures.opened) c.close.ensures.closed c.close.ensures.clean in
    keeps_in g.L.Log.Disk old new c.args.log.path.now c.in_ok-disk.disk c.keep_on-outcome.result.1 v _ _ (IfOk-at_ok (λ done. _) c.in_ok-runner.was c.keep_on-outcome.ensures.ok)

pub returns-clause-others : goal.returns-clause-others
returns-clause-others g c =
    (visited g.L.Log.Disk (g.L.Logs.files c.args.logs.now) _ (g.L.Logs.files c.close.new.self) c.args.log.path.now c.in_ok-disk.disk c.keep_on-outcome.result.1
    (opened_behind _ _ _ _ _ _ c.is_missing.ensures.untouched c.in_ok-disk.ensures.opened) c.close.ensures.closed c.close.ensures.clean).visit.others

pub returns-clause-all_in : goal.returns-clause-all_in
returns-clause-all_in g c =
    (visited g.L.Log.Disk (g.L.Logs.files c.args.logs.now) _ (g.L.Logs.files c.close.new.self) c.args.log.path.now c.in_ok-disk.disk c.keep_on-outcome.result.1
    (opened_behind _ _ _ _ _ _ c.is_missing.ensures.untouched c.in_ok-disk.ensures.opened) c.close.ensures.closed c.close.ensures.clean).visit.all_in
