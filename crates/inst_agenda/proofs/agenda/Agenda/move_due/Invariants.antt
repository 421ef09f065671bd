use Rattle.std.proofs.Common.{length}
use Rattle.inst_agenda.specs.inner.Agenda.{Moves}
use Rattle.inst_agenda.proofs.agenda.Agenda.move_due.Given as goal

abbrev pub invariant-loop-place : goal.invariant-loop-place
invariant-loop-place l = Moves l.initial.self l.self

abbrev pub decreases-loop-place : goal.decreases-loop-place
decreases-loop-place l = length l.self.waiting
