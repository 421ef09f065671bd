use Rattle.std.proofs.Common.{◌∙◌, sym, ap, length}
use Rattle.inst_logged.proofs.AnswersToLogLines.{answers_one, answers_mark, said_one, said_none}
use Rattle.inst_logged.proofs.line_answers.LineAnswers.answer_raw.Goals as goal

pub returns-then-is_mark-clause-ok : goal.returns-then-is_mark-clause-ok
returns-then-is_mark-clause-ok c = answers_mark c.args.self.now.mode c.args.self.now.runner c.args.out.now.items c.args.raw.now (sym c.is_mark.ensures ∙ c.if-is_mark.true)

pub returns-then-is_mark-clause-count : goal.returns-then-is_mark-clause-count
returns-then-is_mark-clause-count c = ap length (sym (said_none c.args.raw.now (sym c.is_mark.ensures ∙ c.if-is_mark.true)))

pub returns-clause-ok : goal.returns-clause-ok
returns-clause-ok c =
    let so = rw c.line_of-line.ensures at c.in_ok-answer_line.ensures in
    answers_one c.args.self.now.mode _ _ _ _ _ _ (sym c.is_mark.ensures ∙ c.if-is_mark.false) so

pub returns-clause-count : goal.returns-clause-count
returns-clause-count c = ap length (sym (said_one c.args.raw.now (sym c.is_mark.ensures ∙ c.if-is_mark.false)))
