use Rattle.std.proofs.Common.{◌≡◌, None, take}
use Rattle.inst_journal.specs.Booked.{booked}
use Rattle.inst_journal.proofs.booked.booked.Given as goal

abbrev pub invariant-loop-event : goal.invariant-loop-event
invariant-loop-event l = booked l.from l.id (take l.event-index l.events) ≡ None
