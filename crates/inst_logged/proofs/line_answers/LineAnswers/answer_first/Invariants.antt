use Rattle.std.proofs.Common.{◌≡◌, ◌≤◌, ◌+◌, ◌-◌, length, drop}
use Rattle.inst_chain.specs.Chain.{said}
use Rattle.inst_logged.specs.inner.Answering.{AnswersFront}
use Rattle.inst_logged.proofs.line_answers.LineAnswers.answer_first.Given as goal

abbrev pub invariant-loop-len : goal.invariant-loop-len
invariant-loop-len l = record {
  front : (f : AnswersFront l.fn.self.mode l.fn.self.runner l.self.runner l.fn.out.items l.out.items l.lines l.rest) × (l.left + length (said f.done) ≡ l.fn.count);
  mode : l.self.mode ≡ l.fn.self.mode;
  within : length l.rest ≤ length l.lines;
  suffix : drop (length l.lines - length l.rest) l.lines ≡ l.rest;
}

abbrev pub decreases-loop-len : goal.decreases-loop-len
decreases-loop-len l = length l.rest
