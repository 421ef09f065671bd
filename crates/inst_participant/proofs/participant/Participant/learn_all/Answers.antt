use Rattle.std.proofs.lemmas.Result.{err_from_is_err_and}
use Rattle.std.proofs.Common.{true, false, is_ok, Bool, sym, subst, arith}
use Rattle.std.proofs.lemmas.Grind.{elements}
use Rattle.std.specs.Prelude.{Result}
use Rattle.std.specs.declared.alloc.AllocError.{AllocError}
use Rattle.inst_participant.specs.declared.follow_up.FollowUpKind.TheVariants.{Learn}
use Rattle.inst_participant.specs.Following.{Does}
use Rattle.inst_participant.specs.Sweeping.{LearnsAll}
use Rattle.inst_participant.specs.Sweeping.LearnsAll.{none_left, refused}
use Rattle.inst_participant.proofs.SweepStepByStep.{on_then, told_some, learnt_now}
use Rattle.inst_participant.proofs.participant.Participant.learn_all.Goals as goal

pub loop-position-preserved : goal.loop-position-preserved
loop-position-preserved c = (
  on_then c.args.self.now c.loop-position.self c.follow.new.self c.loop-position.invariant.0 c.follow.ensures.ready c.follow.ensures.later
      (told_some c.loop-position.self.slot.events c.follow.new.self.slot.events c.follow.ensures.told),
  learnt_now c.loop-position.from c.in-Some.position c.in-Some.place c.follow.result c.in_ok-follow.field-0 c.args.self.now c.loop-position.self c.follow.new.self
      c.loop-position.invariant.1 c.in-Some.ensures.next c.follow.ensures.does c.in_ok-follow.was,
)

pub returns-clause-learns : goal.returns-clause-learns
returns-clause-learns c = c.loop-position.invariant.1 true c.loop-position.self (none_left c.loop-position.from c.loop-position.self c.in_default.ensures.next)

pub returns-in_err-follow-clause-learns : goal.returns-in_err-follow-clause-learns
returns-in_err-follow-clause-learns c =
    subst (λ (r : Result (Unit {0}) AllocError). LearnsAll 0 (is_ok r) c.args.self.now c.follow.new.self) (sym (err_from_is_err_and c.from_residual.result c.from_residual.ensures.1).1)
    (c.loop-position.invariant.1 false c.follow.new.self (refused c.loop-position.from c.in-Some.position c.in-Some.place c.loop-position.self c.follow.new.self c.in-Some.ensures.next
    (subst (λ (r : Result Bool AllocError). Does Learn c.loop-position.self c.in-Some.place r c.follow.new.self) c.in_err-follow.was c.follow.ensures.does)))

pub overflow_add-from : goal.overflow_add-from
overflow_add-from c = grind (arith, elements)

pub loop-position-smaller : goal.loop-position-smaller
loop-position-smaller c = grind (arith, elements)
