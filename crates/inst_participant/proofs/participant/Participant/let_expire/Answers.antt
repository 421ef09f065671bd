use Rattle.std.proofs.lemmas.Result.{err_from_is_err_and}
use Rattle.std.proofs.Common.{rules, true, is_ok, None, sym, subst}
use Rattle.std.specs.Prelude.{Result}
use Rattle.std.specs.declared.alloc.AllocError.{AllocError}
use Rattle.inst_participant.specs.Sweeping.{LetsExpire}
use Rattle.inst_participant.specs.Sweeping.LetsExpire.{none_left}
use Rattle.inst_participant.proofs.SweepStepByStep.{on_then, told_some, expired_now, expiry_refused_now}
use Rattle.inst_participant.proofs.participant.Participant.let_expire.Goals as goal

pub loop-deadline-preserved : goal.loop-deadline-preserved
loop-deadline-preserved c = (
  on_then c.args.self.now c.loop-deadline.self c.expire.new.self c.loop-deadline.invariant.0 c.expire.ensures.ready c.expire.ensures.later
      (told_some c.loop-deadline.self.slot.events c.expire.new.self.slot.events c.expire.ensures.told),
  search rules,
  expired_now c.args.at c.loop-deadline.last _ c.expire.result c.in_ok-expire.field-0 c.args.self.now c.loop-deadline.self c.expire.new.self c.loop-deadline.invariant.2
      c.in-Some.ensures c.expire.ensures.may c.in_ok-expire.was,
)

pub returns-clause-expires : goal.returns-clause-expires
returns-clause-expires c = c.loop-deadline.invariant.2 true c.loop-deadline.self (none_left c.loop-deadline.last c.loop-deadline.self c.in_default.ensures)

pub returns-in_err-expire-clause-expires : goal.returns-in_err-expire-clause-expires
returns-in_err-expire-clause-expires c =
    subst (λ (r : Result (Unit {0}) AllocError). LetsExpire c.args.at None (is_ok r) c.args.self.now c.expire.new.self) (sym (err_from_is_err_and c.from_residual.result c.from_residual.ensures.1).1)
    (expiry_refused_now c.args.at c.loop-deadline.last _ c.expire.result c.args.self.now c.loop-deadline.self c.expire.new.self c.loop-deadline.invariant.2
    c.in-Some.ensures c.expire.ensures.may c.in_err-expire.was)
