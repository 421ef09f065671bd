use Rattle.std.proofs.Common.{sym, ◌∙◌}
use Rattle.std.proofs.lemmas.Result.{on_ok_weaker}
use Rattle.inst_lines.specs.Answering.{hub_answerer, IsRunnerAt}
use Rattle.inst_lines.proofs.ProgressOfSession.{answers-last}
use Rattle.inst_lines.proofs.session.Session.answer_last.Goals as goal

pub returns : goal.returns
returns c = record {
  ok = on_ok_weaker _ (λ t. answers-last (hub_answerer c.args.mode) (IsRunnerAt c.args.mode) _ _ _ _ _ (sym c.is_in_line.ensures ∙ c.if-not-is_in_line.false) c.requires c.len-len.ensures t) c.answer_line.ensures.ok;
}
