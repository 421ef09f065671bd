use Rattle.std.proofs.Common.{◌≡◌, ◌≢◌, rules, subst}
use Rattle.std.proofs.lemmas.Result.{IfErr-weaker, err_from_is_err_and, on_err_weaker, on_ok_weaker}
use Rattle.inst_program.proofs.PassedOnOutcome.{err_all_at, on_err_all}
use Rattle.inst_program.proofs.TwoLogs.{before_so, both_untouched, carried_before, carries, not_begun, not_closed, absent_uncarried, only_closed, successor_can, uncarried_first, uncarried_second, unfit, visited_before}
use Rattle.inst_program.proofs.Statuses.{memory_is_no_refusal, no_refusal}
use Rattle.inst_program.specs.Keeping.{next_asked}
use Rattle.inst_program.specs.inner.Changing.{hub_closed, hub_opening}
use Rattle.inst_program.specs.inner.ExitReason.{status_of_ending}
use Rattle.inst_program.specs.declared.exit_reason.ExitReason.{ExitReason}
use Rattle.inst_program.proofs.carrying.next.Goals as goal

pub returns-in_err-has-clause-err : goal.returns-in_err-has-clause-err
returns-in_err-has-clause-err g c = on_err_all c.from_residual.result _ (both_untouched c.args.task.from.now c.args.task.to.now _ _ c.in_err-has.ensures.untouched)

pub returns-in_err-closed-clause-err : goal.returns-in_err-closed-clause-err
returns-in_err-closed-clause-err g c =
    let apart : c.args.task.from.now ≢ c.args.task.to.now = search rules in
    on_err_all c.from_residual-in_err-closed.result _
    (not_closed (next_asked c.args.task) apart _ _ _ _ (g.met.L.Logs.mixing c.args.logs.now) c.has.ensures.untouched c.close.ensures.visited c.in_err-closed.ensures.err)

pub returns-in_err-next-clause-err : goal.returns-in_err-next-clause-err
returns-in_err-next-clause-err g c =
    let apart : c.args.task.from.now ≢ c.args.task.to.now = search rules in
    let asked = next_asked c.args.task in
    on_err_all c.from_residual-in_err-next.result _
    (only_closed asked apart _ _ _ _ (g.met.L.Logs.mixing c.args.logs.now) c.has.ensures.untouched c.close.ensures.visited (hub_closed c.in_ok-closed.closed)
    (λ kept. c.in_ok-closed.ensures.ok kept asked.digest c.in_ok-wanted.ensures))

pub begin-requires-clause-can : goal.begin-requires-clause-can
begin-requires-clause-can g c =
    successor_can c.args.task.positions c.args.task.changes (hub_closed c.in_ok-closed.closed) (hub_opening c.in_ok-next.next) c.in_ok-next.ensures.follows

pub returns-in_err-previous-clause-err : goal.returns-in_err-previous-clause-err
returns-in_err-previous-clause-err g c =
    let apart : c.args.task.from.now ≢ c.args.task.to.now = search rules in
    let asked = next_asked c.args.task in
    on_err_all c.from_residual-in_err-previous.result _
    (only_closed asked apart _ _ _ _ (g.met.L.Logs.mixing c.args.logs.now) c.has.ensures.untouched (visited_before _ _ _ _ c.close.ensures.visited c.in_err-previous.ensures.untouched) (hub_closed c.in_ok-closed.closed)
    (carried_before _ _ _ _ c.close.ensures.visited c.in_err-previous.ensures.untouched asked.digest _ _ (λ kept. c.in_ok-closed.ensures.ok kept asked.digest c.in_ok-wanted.ensures)))

pub returns-in_err-previous-clause-refused : goal.returns-in_err-previous-clause-refused
returns-in_err-previous-clause-refused g c =
    err_all_at c.from_residual-in_err-previous.result _ (err_from_is_err_and c.from_residual-in_err-previous.result c.from_residual-in_err-previous.ensures.1)
    (λ e is two. absurd (c.in_err-previous.ensures.failed (subst (λ (f : ExitReason). status_of_ending f ≡ 2) is two)))

pub returns-clause-ok : goal.returns-clause-ok
returns-clause-ok g c =
    let apart : c.args.task.from.now ≢ c.args.task.to.now = search rules in
    let asked = next_asked c.args.task in
    on_ok_weaker c.begin.result (λ is.
    carries asked apart _ _ _ _ (g.met.L.Logs.mixing c.args.logs.now) c.has.ensures.untouched (visited_before _ _ _ _ c.close.ensures.visited c.in_ok-previous.ensures.untouched) _ c.begin.ensures.visited (hub_closed c.in_ok-closed.closed)
    (carried_before _ _ _ _ c.close.ensures.visited c.in_ok-previous.ensures.untouched asked.digest _ _ (λ kept. c.in_ok-closed.ensures.ok kept asked.digest c.in_ok-wanted.ensures))
    (hub_opening c.in_ok-next.next) c.in_ok-next.ensures.follows c.in_ok-previous.previous (before_so _ _ _ c.args.task.positions c.in_ok-previous.previous c.in_ok-previous.ensures.untouched c.in_ok-previous.ensures.previous) is) c.begin.ensures.ok

pub returns-clause-err : goal.returns-clause-err
returns-clause-err g c =
    let apart : c.args.task.from.now ≢ c.args.task.to.now = search rules in
    let asked = next_asked c.args.task in
    on_err_weaker c.begin.result (λ is.
    not_begun asked apart _ _ _ _ (g.met.L.Logs.mixing c.args.logs.now) c.has.ensures.untouched (visited_before _ _ _ _ c.close.ensures.visited c.in_ok-previous.ensures.untouched) _ c.begin.ensures.visited (hub_closed c.in_ok-closed.closed)
    (carried_before _ _ _ _ c.close.ensures.visited c.in_ok-previous.ensures.untouched asked.digest _ _ (λ kept. c.in_ok-closed.ensures.ok kept asked.digest c.in_ok-wanted.ensures))
    (hub_opening c.in_ok-next.next) c.in_ok-next.ensures.follows c.in_ok-previous.previous (before_so _ _ _ c.args.task.positions c.in_ok-previous.previous c.in_ok-previous.ensures.untouched c.in_ok-previous.ensures.previous) is) c.begin.ensures.err

pub returns-in_err-has-clause-refused : goal.returns-in_err-has-clause-refused
returns-in_err-has-clause-refused g c =
    err_all_at c.from_residual.result _ (err_from_is_err_and c.from_residual.result c.from_residual.ensures.1)
    (λ e is two. absurd (no_refusal c.in_err-has.field-0.0 e is c.in_err-has.ensures.cause two))

pub returns-then-not-branch-clause-refused : goal.returns-then-not-branch-clause-refused
returns-then-not-branch-clause-refused g c two =
    absent_uncarried (next_asked c.args.task) _ _ c.has.ensures.untouched (λ is. c.in_ok-has.ensures.none is c.if-not-branch.true)

pub returns-in_err-wanted-clause-refused : goal.returns-in_err-wanted-clause-refused
returns-in_err-wanted-clause-refused g c =
    err_all_at c.from_residual-in_err-wanted.result _ (err_from_is_err_and c.from_residual-in_err-wanted.result c.from_residual-in_err-wanted.ensures.1)
    (λ e is two. absurd (memory_is_no_refusal e is two))

pub returns-in_err-closed-clause-refused : goal.returns-in_err-closed-clause-refused
returns-in_err-closed-clause-refused g c =
    let apart : c.args.task.from.now ≢ c.args.task.to.now = search rules in
    err_all_at c.from_residual-in_err-closed.result _ (err_from_is_err_and c.from_residual-in_err-closed.result c.from_residual-in_err-closed.ensures.1)
    (λ e is two.
    uncarried_first (next_asked c.args.task) apart _ _ _ _ (g.met.L.Logs.mixing c.args.logs.now) c.has.ensures.untouched c.close.ensures.visited
    c.in_ok-wanted.wanted c.in_ok-wanted.ensures (c.in_err-closed.ensures.refused (subst (λ (f : ExitReason). status_of_ending f ≡ 2) is two)))

pub returns-in_err-next-clause-refused : goal.returns-in_err-next-clause-refused
returns-in_err-next-clause-refused g c =
    let apart : c.args.task.from.now ≢ c.args.task.to.now = search rules in
    let asked = next_asked c.args.task in
    err_all_at c.from_residual-in_err-next.result _ (err_from_is_err_and c.from_residual-in_err-next.result c.from_residual-in_err-next.ensures.1)
    (λ e is two.
    unfit asked apart _ _ _ _ (g.met.L.Logs.mixing c.args.logs.now) c.has.ensures.untouched c.close.ensures.visited (hub_closed c.in_ok-closed.closed)
    (λ kept. c.in_ok-closed.ensures.ok kept asked.digest c.in_ok-wanted.ensures) (c.in_err-next.ensures.unfit (subst (λ (f : ExitReason). status_of_ending f ≡ 2) is two)))

pub returns-clause-refused : goal.returns-clause-refused
returns-clause-refused g c =
    let apart : c.args.task.from.now ≢ c.args.task.to.now = search rules in
    let asked = next_asked c.args.task in
    IfErr-weaker c.begin.result _ _ (λ e is two.
    uncarried_second asked apart _ _ _ _ (g.met.L.Logs.mixing c.args.logs.now) c.has.ensures.untouched (visited_before _ _ _ _ c.close.ensures.visited c.in_ok-previous.ensures.untouched) _ c.begin.ensures.visited (hub_closed c.in_ok-closed.closed)
    (carried_before _ _ _ _ c.close.ensures.visited c.in_ok-previous.ensures.untouched asked.digest _ _ (λ kept. c.in_ok-closed.ensures.ok kept asked.digest c.in_ok-wanted.ensures))
    (hub_opening c.in_ok-next.next) c.in_ok-next.ensures.follows c.in_ok-previous.previous (before_so _ _ _ c.args.task.positions c.in_ok-previous.previous c.in_ok-previous.ensures.untouched c.in_ok-previous.ensures.previous) (is two)) c.begin.ensures.refused
