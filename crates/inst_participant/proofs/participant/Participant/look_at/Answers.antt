use Rattle.std.proofs.lemmas.Result.{err_from_is_err_and}
use Rattle.std.proofs.Common.{sym, ap, ◌∙◌, subst}
use Rattle.std.specs.Prelude.{Err}
use Rattle.inst_board.specs.declared.look.Look.{Look}
use Rattle.inst_participant.specs.Sweeping.{Brings, is_used_unless_memory}
use Rattle.inst_participant.proofs.participant.Participant.look_at.Goals as goal

pub returns-in_err-follow-in-Pending-clause-looks :
    goal.returns-in_err-follow-in-Pending-clause-looks
returns-in_err-follow-in-Pending-clause-looks c = record {
  look = c.look.result;
  between = c.look.new.self;
  same = c.look.ensures.same;
  shows = c.look.ensures.shows;
  brings = subst (λ (l : Look). Brings l c.look.new.self c.args.place c.from_residual.result c.follow.new.self) (sym c.in-Pending.is)
      (c.follow.result, c.follow.ensures.does, (let e = err_from_is_err_and c.from_residual.result c.from_residual.ensures.1 in e.1 ∙ ap Err e.2) ∙ sym (ap is_used_unless_memory c.in_err-follow-in-Pending.was));
}
