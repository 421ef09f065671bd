use Rattle.std.proofs.Common.{ℕ, List, refl, subst, ◌∙◌}
use Rattle.inst_base.specs.Newline.{BreaksAt}
use Rattle.inst_lines.specs.Answering.{hub_answerer, IsRunnerAt}
use Rattle.inst_lines.proofs.ProgressOfSession.{on_err, advances-line, stops-unwritten, stops-line}
use Rattle.inst_lines.proofs.session.Session.answer_held.Goals as goal

pub returns-in_err-answer_line-clause-err : goal.returns-in_err-answer_line-clause-err
returns-in_err-answer_line-clause-err g c = on_err _ (stops-unwritten (hub_answerer c.args.mode) (IsRunnerAt c.args.mode) _ _ _ _ _ _ c.loop-self.invariant.0)

pub loop-self-preserved : goal.loop-self-preserved
loop-self-preserved g c = (
  advances-line (hub_answerer c.args.mode) (IsRunnerAt c.args.mode) _ _ _ _ _ _ _ _ _ _ _ c.loop-self.invariant.0 (subst (λ (t : List ℕ). BreaksAt t c.in-Some.len) c.as_slice.ensures c.in-Some.ensures) c.in_ok-answer_line.ensures.ok refl refl c.in_ok-write_if_full.ensures.ok,
  c.in_ok-answer_line.ensures.ok.taken_is ∙ c.loop-self.invariant.1,
)

pub returns-in_err-write_if_full-clause-err : goal.returns-in_err-write_if_full-clause-err
returns-in_err-write_if_full-clause-err g c =
    on_err _ (stops-line (hub_answerer c.args.mode) (IsRunnerAt c.args.mode) _ _ _ _ _ _ _ _ _ _ c.loop-self.invariant.0 (subst (λ (t : List ℕ). BreaksAt t c.in-Some.len) c.as_slice.ensures c.in-Some.ensures) c.in_ok-answer_line.ensures.ok c.in_err-write_if_full.ensures.err)
