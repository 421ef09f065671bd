use Rattle.std.proofs.Common.{◌≡◌, length}
use Rattle.inst_logged.specs.inner.Answering.{AnswersFront}
use Rattle.inst_logged.proofs.line_answers.LineAnswers.answer_all.Given as goal

abbrev pub invariant-loop-len : goal.invariant-loop-len
invariant-loop-len l = record {
  front : AnswersFront l.fn.self.mode l.fn.self.runner l.self.runner l.fn.out.items l.out.items l.lines l.rest;
  mode : l.self.mode ≡ l.fn.self.mode;
}

abbrev pub decreases-loop-len : goal.decreases-loop-len
decreases-loop-len l = length l.rest
