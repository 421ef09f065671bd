use Rattle.std.proofs.Common.{◌-◌}
use Rattle.inst_lines.specs.Answering.{HubPast, IsRunnerAt, hub_answerer}
use Rattle.inst_lines.specs.Session.{IsReadyToRead}
use Rattle.inst_lines.proofs.ProgressOfWholeRun.{Reads}
use Rattle.inst_lines.proofs.run.answer_lines.Given as goal

abbrev pub invariant-loop-session : goal.invariant-loop-session
invariant-loop-session g l =
    IsReadyToRead l.session × ((past : HubPast) → IsRunnerAt l.mode past l.initial.runner →
    Reads (hub_answerer l.mode) (IsRunnerAt l.mode) past (g.W.Write.contents l.initial.writer) (g.R.Read.remaining l.initial.reader)
    l.session l.runner (g.W.Write.contents l.writer) (g.R.Read.remaining l.reader))

abbrev pub decreases-loop-session : goal.decreases-loop-session
decreases-loop-session g l = 4294967296 - l.session.input.taken
