use Rattle.std.proofs.lemmas.Result.{err_from_is_err_and}
use Rattle.std.proofs.Common.{rules, ℕ, true, false, is_ok, sym, subst, ◌∙◌, arith}
use Rattle.std.proofs.lemmas.Grind.{common_steps}
use Rattle.std.specs.Prelude.{Result, None}
use Rattle.std.specs.declared.alloc.AllocError.{AllocError}
use Rattle.inst_settings.specs.Settings.{HubSettings, participants}
use Rattle.inst_participant.specs.Sweeping.{LetsExpire, LearnsAll, DeliversAll, Sweeps}
use Rattle.inst_participant.specs.Sweeping.Sweeps.{swept, resolution_refused, expiry_refused}
use Rattle.inst_participant.proofs.LaterParticipant.{later_twice}
use Rattle.inst_participant.proofs.NothingDueAfterSweep.{due_after}
use Rattle.inst_participant.proofs.SweepStepByStep.{told_twice}
use Rattle.inst_participant.proofs.participant.Participant.sweep.Goals as goal

pub returns-in_err-learn_all-clause-told : goal.returns-in_err-learn_all-clause-told
returns-in_err-learn_all-clause-told c = told_twice _ _ _ c.let_expire.ensures.told c.learn_all.ensures.told

pub returns-in_err-deliver_all-clause-told : goal.returns-in_err-deliver_all-clause-told
returns-in_err-deliver_all-clause-told c = told_twice _ _ _ (told_twice _ _ _ c.let_expire.ensures.told c.learn_all.ensures.told) c.deliver_all.ensures.told

pub returns-clause-told : goal.returns-clause-told
returns-clause-told c = told_twice _ _ _ (told_twice _ _ _ c.let_expire.ensures.told c.learn_all.ensures.told) c.deliver_all.ensures.told

pub returns-in_err-let_expire-clause-sweeps : goal.returns-in_err-let_expire-clause-sweeps
returns-in_err-let_expire-clause-sweeps c =
    subst (λ (r : Result ℕ AllocError). Sweeps c.args.at (is_ok r) c.args.self.now c.let_expire.new.self) (sym (err_from_is_err_and c.from_residual.result c.from_residual.ensures.1).1)
    (expiry_refused c.args.self.now c.let_expire.new.self
    (subst (λ (r : Result (Unit {0}) AllocError). LetsExpire c.args.at None (is_ok r) c.args.self.now c.let_expire.new.self) c.in_err-let_expire.was c.let_expire.ensures.expires))

pub returns-in_err-learn_all-clause-sweeps : goal.returns-in_err-learn_all-clause-sweeps
returns-in_err-learn_all-clause-sweeps c =
    subst (λ (r : Result ℕ AllocError). Sweeps c.args.at (is_ok r) c.args.self.now c.learn_all.new.self) (sym (err_from_is_err_and c.from_residual-in_err-learn_all.result c.from_residual-in_err-learn_all.ensures.1).1)
    (resolution_refused c.args.self.now c.let_expire.new.self c.learn_all.new.self c.in_ok-let_expire.ensures.expires
    (subst (λ (r : Result (Unit {0}) AllocError). LearnsAll 0 (is_ok r) c.let_expire.new.self c.learn_all.new.self) c.in_err-learn_all.was c.learn_all.ensures.learns))

pub returns-in_err-deliver_all-clause-sweeps : goal.returns-in_err-deliver_all-clause-sweeps
returns-in_err-deliver_all-clause-sweeps c =
    subst (λ (r : Result ℕ AllocError). Sweeps c.args.at (is_ok r) c.args.self.now c.deliver_all.new.self) (sym (err_from_is_err_and c.from_residual-in_err-deliver_all.result c.from_residual-in_err-deliver_all.ensures.1).1)
    (swept false c.args.self.now c.let_expire.new.self c.learn_all.new.self c.deliver_all.new.self c.in_ok-let_expire.ensures.expires c.in_ok-learn_all.ensures.learns
    (subst (λ (n : HubSettings). DeliversAll 0 (participants n) false c.learn_all.new.self c.deliver_all.new.self)
    (c.learn_all.ensures.later.settings ∙ c.let_expire.ensures.later.settings)
    (subst (λ (r : Result (Unit {0}) AllocError). DeliversAll 0 (participants c.learn_all.new.self.slot.settings) (is_ok r) c.learn_all.new.self c.deliver_all.new.self) c.in_err-deliver_all.was c.deliver_all.ensures.delivers)))

pub returns-clause-sweeps : goal.returns-clause-sweeps
returns-clause-sweeps c =
    swept true c.args.self.now c.let_expire.new.self c.learn_all.new.self c.deliver_all.new.self c.in_ok-let_expire.ensures.expires c.in_ok-learn_all.ensures.learns
    (subst (λ (n : HubSettings). DeliversAll 0 (participants n) true c.learn_all.new.self c.deliver_all.new.self)
    (c.learn_all.ensures.later.settings ∙ c.let_expire.ensures.later.settings) c.in_ok-deliver_all.ensures.delivers)

pub returns-clause-whole : goal.returns-clause-whole
returns-clause-whole c = record {
  new = search rules;
  due = due_after c.args.at c.args.self.now c.let_expire.new.self c.deliver_all.new.self c.requires.ready c.in_ok-let_expire.ensures.expires
      (later_twice _ _ _ c.learn_all.ensures.later c.deliver_all.ensures.later) (told_twice _ _ _ c.learn_all.ensures.told c.deliver_all.ensures.told);
}

pub overflow_sub-after : goal.overflow_sub-after
overflow_sub-after c = grind (arith, common_steps)
