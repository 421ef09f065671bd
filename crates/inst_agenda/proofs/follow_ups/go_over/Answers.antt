use Rattle.std.proofs.Common.{◌≡◌, ◌<◌, ◌∷◌, ℕ, true, false, Some, None, ap, sym, ◌∙◌, subst, arith}
use Rattle.std.specs.Prelude.{Result, Ok, Err, OnOk}
use Rattle.std.specs.declared.alloc.AllocError.{AllocError}
use Rattle.std.proofs.lemmas.Bool.Decides.{nat_tests}
use Rattle.std.proofs.lemmas.Option.{same_Some}
use Rattle.inst_base.specs.TimeLimit.{is_due}
use Rattle.inst_settings.specs.Settings.{HubSettings, is_participant}
use Rattle.inst_command.specs.declared.step.Step.TheVariants.{Deliver}
use Rattle.inst_model.specs.Hub.{history, outcome}
use Rattle.inst_model.specs.Transfer.{Transfer, at_place, deadline}
use Rattle.inst_world.specs.HasRun.{World, world_settings, HasRun}
use Rattle.inst_world.specs.Places.{IsPendingAt}
use Rattle.inst_agenda.proofs.TransferGoneOver.{addressed, goes_waiting, goes_on_waiting, goes_decided}
use Rattle.inst_agenda.proofs.TransfersAtRest.{delivery_is_all}
use Rattle.inst_agenda.proofs.follow_ups.go_over.Goals as goal

pub returns-in_ok-wait-clause-ok : goal.returns-in_ok-wait-clause-ok
returns-in_ok-wait-clause-ok c = λ O L was.
    let hub = c.args.runner.now.world in
    let looked = c.pending_until.ensures.same ∙ c.beneficiary_at.ensures.same in
    goes_waiting O L c.args.at c.args.place hub c.follow_up_transfer-2.new.world c.pending_until-2.new.self c.args.runner.now.agenda c.wait-in-Some-pending_until-2.new.self c.in-Some.to c.in-Some-pending_until-2.deadline
    (c.follow_up_transfer-2.ensures.settings ∙ ap world_settings looked) c.pending_until-2.ensures.same (c.in-Some.ensures.beneficiary O L was)
    (c.in_ok-follow_up_transfer.ensures.ok O L (subst (λ (h : World). HasRun O L h) (sym looked) was))
    (λ M ran x there none. sym c.in-Some-pending_until-2.is ∙ c.pending_until-2.ensures.deadline O M ran x there none) c.in_ok-wait.ensures.ok

pub returns-in_default-pending_until-2-clause-ok : goal.returns-in_default-pending_until-2-clause-ok
returns-in_default-pending_until-2-clause-ok c = λ O L was.
    let hub = c.args.runner.now.world in
    let looked = c.pending_until.ensures.same ∙ c.beneficiary_at.ensures.same in
    goes_decided O L c.args.at c.args.place hub c.follow_up_transfer-2.new.world c.pending_until-2.new.self c.args.runner.now.agenda c.in-Some.to
    (c.follow_up_transfer-2.ensures.settings ∙ ap world_settings looked) c.pending_until-2.ensures.same (c.in-Some.ensures.beneficiary O L was)
    (c.in_ok-follow_up_transfer.ensures.ok O L (subst (λ (h : World). HasRun O L h) (sym looked) was))
    (λ M ran x there none. sym c.in_default-pending_until-2.is ∙ c.pending_until-2.ensures.deadline O M ran x there none)

not_due : (at d : ℕ) → is_due d at ≡ false → at < d
not_due at d is = grind (arith, nat_tests, is)

on_ok : {A B : Type 0} (r : Result Unit AllocError) → (A → B) → OnOk r A → OnOk r B
on_ok (Ok done) f a = f a
on_ok (Err e) f a = tt

pub returns-then-not-is_due-clause-ok : goal.returns-then-not-is_due-clause-ok
returns-then-not-is_due-clause-ok c = on_ok c.wait.result (λ w. λ O L was.
    let p = c.args.place.owner in
    let k = c.args.place.index in
    let hub = c.args.runner.now.world in
    let asked = c.beneficiary_at.ensures.same in
    let was_asked = subst (λ (h : World). HasRun O L h) (sym asked) was in
    let pending = subst (λ (h : World). IsPendingAt (world_settings h) O L c.args.place) asked (c.in-Some-pending_until.ensures.pending O L was_asked) in
    let x : Transfer = pending.0 in
    let due = same_Some c.in-Some-pending_until.deadline (deadline (world_settings hub) x)
    (subst (λ (h : World). Some c.in-Some-pending_until.deadline ≡ Some (deadline (world_settings h) x)) asked
    (c.in-Some-pending_until.ensures.deadline O L was_asked x
    (subst (λ (h : World). at_place p (history (world_settings h) O L p) k ≡ Some x) (sym asked) pending.1)
    (subst (λ (h : World). outcome (world_settings h) O L p x.id ≡ None) (sym asked) pending.2))) in
    let to_is = addressed (at_place p (history (world_settings hub) O L p) k) x c.in-Some.to (c.in-Some.ensures.beneficiary O L was) pending.1 in
    let looked = c.pending_until.ensures.same ∙ asked in
    let settings = c.step.ensures.settings ∙ ap world_settings looked in
    let delivered = subst (λ (n : ℕ). HasRun O (Deliver p k n ∷ L) c.step.new.self) to_is (c.in_ok-step.ensures.ok O L (subst (λ (h : World). HasRun O L h) (sym looked) was)).1 in
    goes_on_waiting O L c.args.at c.args.place hub c.step.new.self c.args.runner.now.agenda c.wait.new.self x c.in-Some-pending_until.deadline pending.1 due
    (delivery_is_all O L c.step.new.self c.args.at p k x
    (subst (λ (s : HubSettings). at_place p (history s O L p) k ≡ Some x) (sym settings) pending.1)
    (subst (λ (s : HubSettings). is_participant s p ≡ true) (sym settings) c.in-Some.ensures.owner)
    (subst (λ (s : HubSettings). outcome s O L p x.id ≡ None) (sym settings) pending.2)
    (subst (λ (d : ℕ). c.args.at < d) (due ∙ ap (λ (s : HubSettings). deadline s x) (sym settings)) (not_due c.args.at c.in-Some-pending_until.deadline (sym c.if-not-is_due.ensures)))
    delivered) w) c.wait.ensures.ok
