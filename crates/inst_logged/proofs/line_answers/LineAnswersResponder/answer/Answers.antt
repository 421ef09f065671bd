use Rattle.std.proofs.lemmas.Result.{on_ok_weaker}
use Rattle.inst_logged.proofs.AnswersToLogLines.{says_on}
use Rattle.inst_logged.proofs.line_answers.LineAnswersResponder.answer.Goals as goal

pub returns-clause-on : goal.returns-clause-on
returns-clause-on c =
    on_ok_weaker c.answer_all.result (λ so. rw c.answer_all.ensures.mode (says_on c.args.self.now.mode _ _ _ _ _ so)) c.answer_all.ensures.ok
