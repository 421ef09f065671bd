use Rattle.inst_lines.proofs.RepliesAreAnswers.{replies_are_answers}
use Rattle.inst_lines.proofs.laws.replies_are_the_runs_answers.Goals as goal

pub returns : goal.returns
returns c = replies_are_answers
