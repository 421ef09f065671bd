use Rattle.std.proofs.lemmas.Result.{err_from_is_err_and}
use Rattle.std.proofs.Common.{◌≡◌, ◌∙◌, ℕ, ◌+◌, true, false, is_ok, subst, sym, ap}
use Rattle.std.specs.Prelude.{Result}
use Rattle.std.specs.declared.alloc.AllocError.{AllocError}
use Rattle.inst_settings.specs.Settings.{HubSettings, participants}
use Rattle.inst_participant.specs.declared.participant.Participant.{Participant}
use Rattle.inst_participant.specs.Sweeping.{DeliversFrom, DeliversAll}
use Rattle.inst_participant.proofs.SweepStepByStep.{On, LeftOfOwners, told_twice, on_then, own_now, other_now, owner_refused, all_delivered}
use Rattle.inst_participant.proofs.participant.Participant.deliver_all.Goals as goal
use Rattle.inst_participant.proofs.participant.Participant.deliver_all.Goals.{then-owner-own+in_ok-deliver_from, else-owner-own}

pub returns-in_err-deliver_from-clause-told : goal.returns-in_err-deliver_from-clause-told
returns-in_err-deliver_from-clause-told c = told_twice _ _ _ c.loop-owner.invariant.0.told c.deliver_from.ensures.told

pub loop-owner-preserved : goal.loop-owner-preserved
loop-owner-preserved c =
    let who : c.from-own.result ≡ c.loop-owner.self.slot.who = c.from-own.ensures ∙ (c.who.ensures ∙ sym c.loop-owner.invariant.0.later.who) in
    let Kept : Participant → Type 0 = λ (z : Participant). On c.args.self.now z × LeftOfOwners (c.loop-owner.owner + 1) c.participants-owner-end.result c.args.self.now z in
    elim c.if-owner-own.branch [
      | then-owner-own+in_ok-deliver_from w ↦ subst Kept (sym w.self-is) (
        on_then c.args.self.now c.loop-owner.self w.deliver_from.new.self c.loop-owner.invariant.0 w.deliver_from.ensures.ready w.deliver_from.ensures.later w.deliver_from.ensures.told,
        other_now c.loop-owner.owner c.participants-owner-end.result c.args.self.now c.loop-owner.self w.deliver_from.new.self c.loop-owner-test.true (λ is. w.if-owner-own.true (is ∙ sym who)) c.loop-owner.invariant.1 w.in_ok-deliver_from.ensures.delivers,
      )
      | else-owner-own w ↦ subst Kept (sym w.self-is) (
        c.loop-owner.invariant.0,
        own_now c.loop-owner.owner c.participants-owner-end.result c.args.self.now c.loop-owner.self c.loop-owner-test.true (w.if-owner-own.false ∙ who) c.loop-owner.invariant.1,
      )
    ]

pub returns-clause-delivers : goal.returns-clause-delivers
returns-clause-delivers c =
    let count : c.participants-owner-end.result ≡ participants c.args.self.now.slot.settings = c.participants-owner-end.ensures.value ∙ ap (λ (s : HubSettings). participants s) c.settings.ensures.settings in
    subst (λ (n : ℕ). DeliversAll 0 n true c.args.self.now c.loop-owner.self) count
    (all_delivered c.loop-owner.owner c.participants-owner-end.result c.args.self.now c.loop-owner.self c.loop-owner-test.false c.loop-owner.invariant.1)

pub returns-in_err-deliver_from-clause-delivers : goal.returns-in_err-deliver_from-clause-delivers
returns-in_err-deliver_from-clause-delivers c =
    let count : c.participants-owner-end.result ≡ participants c.args.self.now.slot.settings = c.participants-owner-end.ensures.value ∙ ap (λ (s : HubSettings). participants s) c.settings.ensures.settings in
    let who : c.from-own.result ≡ c.loop-owner.self.slot.who = c.from-own.ensures ∙ (c.who.ensures ∙ sym c.loop-owner.invariant.0.later.who) in
    subst (λ (r : Result (Unit {0}) AllocError). DeliversAll 0 (participants c.args.self.now.slot.settings) (is_ok r) c.args.self.now c.deliver_from.new.self) (sym (err_from_is_err_and c.from_residual.result c.from_residual.ensures.1).1)
    (subst (λ (n : ℕ). DeliversAll 0 n false c.args.self.now c.deliver_from.new.self) count
    (owner_refused c.loop-owner.owner c.participants-owner-end.result c.args.self.now c.loop-owner.self c.deliver_from.new.self c.loop-owner-test.true (λ is. c.if-owner-own.true (is ∙ sym who)) c.loop-owner.invariant.1
    (subst (λ (r : Result (Unit {0}) AllocError). DeliversFrom c.loop-owner.owner 0 c.loop-owner.self.slot.settings.places (is_ok r) c.loop-owner.self c.deliver_from.new.self) c.in_err-deliver_from.was c.deliver_from.ensures.delivers)))
