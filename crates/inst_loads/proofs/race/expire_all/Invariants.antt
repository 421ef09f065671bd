use Rattle.std.proofs.Common.{◌≤◌}
use Rattle.inst_loads.proofs.race.expire_all.Given as goal

abbrev pub invariant-loop-index : goal.invariant-loop-index
invariant-loop-index l = l.expired ≤ l.index
