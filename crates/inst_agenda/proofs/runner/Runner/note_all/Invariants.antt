use Rattle.std.proofs.Common.{◌≡◌}
use Rattle.inst_agenda.specs.inner.Watching.{NotesSome}
use Rattle.inst_agenda.proofs.PlacesToGoOverNext.{NotedBelow}
use Rattle.inst_agenda.proofs.runner.Runner.note_all.Given as goal

abbrev pub invariant-loop-index : goal.invariant-loop-index
invariant-loop-index l = record {
  world : l.self.world ≡ l.initial.self.world;
  notes : NotesSome l.initial.self.agenda l.self.agenda l.owner;
  noted : NotedBelow l.initial.self.world l.self.agenda l.owner l.index;
}
