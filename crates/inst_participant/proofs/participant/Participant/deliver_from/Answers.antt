use Rattle.std.proofs.lemmas.Result.{err_from_is_err_and}
use Rattle.std.proofs.Common.{◌≡◌, ◌∙◌, ℕ, Bool, true, false, is_ok, sym, subst, ap}
use Rattle.std.specs.Prelude.{Result, Ok}
use Rattle.std.specs.declared.alloc.AllocError.{AllocError}
use Rattle.inst_settings.specs.Settings.{HubSettings}
use Rattle.inst_slot.specs.Book.{place_at}
use Rattle.inst_participant.specs.Sweeping.{LooksAt, DeliversFrom}
use Rattle.inst_participant.proofs.SweepStepByStep.{told_twice, on_then, unused_now, used_now, refused_now, all_looked_at}
use Rattle.inst_participant.proofs.participant.Participant.deliver_from.Goals as goal

pub returns-in_err-look_at-clause-told : goal.returns-in_err-look_at-clause-told
returns-in_err-look_at-clause-told c = told_twice _ _ _ c.loop-index.invariant.0.told c.look_at.ensures.told

pub returns-then-not-branch-clause-delivers : goal.returns-then-not-branch-clause-delivers
returns-then-not-branch-clause-delivers c =
    let places : c.places-index-end.result ≡ c.args.self.now.slot.settings.places = c.places-index-end.ensures.value ∙ ap (λ (s : HubSettings). s.places) c.settings.ensures.settings in
    subst (λ (n : ℕ). DeliversFrom c.args.owner 0 n true c.args.self.now c.look_at.new.self) places
    (unused_now c.args.owner c.loop-index.index c.places-index-end.result c.args.self.now c.loop-index.self c.look_at.new.self c.loop-index-test.true c.loop-index.invariant.1
    (subst (λ (b : Bool). LooksAt c.loop-index.self (place_at c.args.owner c.loop-index.index) (Ok b) c.look_at.new.self) c.if-not-branch.true c.in_ok-look_at.ensures.looks))

pub loop-index-preserved : goal.loop-index-preserved
loop-index-preserved c = (
  on_then c.args.self.now c.loop-index.self c.look_at.new.self c.loop-index.invariant.0 c.look_at.ensures.ready c.look_at.ensures.later c.look_at.ensures.told,
  used_now c.args.owner c.loop-index.index c.places-index-end.result c.args.self.now c.loop-index.self c.look_at.new.self c.loop-index-test.true c.loop-index.invariant.1
      (subst (λ (b : Bool). LooksAt c.loop-index.self (place_at c.args.owner c.loop-index.index) (Ok b) c.look_at.new.self) c.if-not-branch.false c.in_ok-look_at.ensures.looks),
)

pub returns-clause-delivers : goal.returns-clause-delivers
returns-clause-delivers c =
    let places : c.places-index-end.result ≡ c.args.self.now.slot.settings.places = c.places-index-end.ensures.value ∙ ap (λ (s : HubSettings). s.places) c.settings.ensures.settings in
    subst (λ (n : ℕ). DeliversFrom c.args.owner 0 n true c.args.self.now c.loop-index.self) places
    (all_looked_at c.args.owner c.loop-index.index c.places-index-end.result c.args.self.now c.loop-index.self c.loop-index-test.false c.loop-index.invariant.1)

pub returns-in_err-look_at-clause-delivers : goal.returns-in_err-look_at-clause-delivers
returns-in_err-look_at-clause-delivers c =
    let places : c.places-index-end.result ≡ c.args.self.now.slot.settings.places = c.places-index-end.ensures.value ∙ ap (λ (s : HubSettings). s.places) c.settings.ensures.settings in
    subst (λ (r : Result (Unit {0}) AllocError). DeliversFrom c.args.owner 0 c.args.self.now.slot.settings.places (is_ok r) c.args.self.now c.look_at.new.self) (sym (err_from_is_err_and c.from_residual.result c.from_residual.ensures.1).1)
    (subst (λ (n : ℕ). DeliversFrom c.args.owner 0 n false c.args.self.now c.look_at.new.self) places
    (refused_now c.args.owner c.loop-index.index c.places-index-end.result c.args.self.now c.loop-index.self c.look_at.new.self c.loop-index-test.true c.loop-index.invariant.1
    (subst (λ (r : Result Bool AllocError). LooksAt c.loop-index.self (place_at c.args.owner c.loop-index.index) r c.look_at.new.self) c.in_err-look_at.was c.look_at.ensures.looks)))
