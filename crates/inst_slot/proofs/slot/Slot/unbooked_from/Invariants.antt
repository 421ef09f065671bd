use Rattle.std.proofs.Common.{◌≤◌}
use Rattle.inst_slot.specs.Arrived.{NoneUnbooked}
use Rattle.inst_slot.proofs.slot.Slot.unbooked_from.Given as goal

abbrev pub invariant-loop-at : goal.invariant-loop-at
invariant-loop-at l = (l.position ≤ l.at) × NoneUnbooked l.self l.position l.at
