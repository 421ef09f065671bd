use Rattle.std.proofs.Common.{◌≡◌, ◌-◌}
use Rattle.inst_lines.specs.Answering.{hub_answerer, IsRunnerAt}
use Rattle.inst_lines.specs.inner.Session.{Advances}
use Rattle.inst_lines.proofs.session.Session.answer_held.Given as goal
use Rattle.inst_lines.specs.Limits.{most_lines}

abbrev pub invariant-loop-self : goal.invariant-loop-self
invariant-loop-self g l =
    Advances (hub_answerer l.mode) (IsRunnerAt l.mode) l.initial.self l.initial.runner (g.W.Write.contents l.initial.writer) l.self l.runner (g.W.Write.contents l.writer)
    × (l.self.input.taken ≡ l.initial.self.input.taken)

abbrev pub decreases-loop-self : goal.decreases-loop-self
decreases-loop-self g l = most_lines - l.self.counts.lines
