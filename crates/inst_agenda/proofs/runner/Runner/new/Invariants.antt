use Rattle.std.proofs.Common.{◌≡◌}
use Rattle.inst_agenda.proofs.PlacesToGoOverNext.{NotedOwners}
use Rattle.inst_agenda.proofs.runner.Runner.new.Given as goal

abbrev pub invariant-loop-owner : goal.invariant-loop-owner
invariant-loop-owner l = record {
  world : l.runner.world ≡ l.fn.world;
  noted : NotedOwners l.fn.world l.runner.agenda l.owner;
}
