use Rattle.std.proofs.Common.{◌≡◌, None, take}
use Rattle.inst_journal.specs.Booked.{first_some, books_own}
use Rattle.inst_journal.proofs.booked.own_booked.Given as goal

abbrev pub invariant-loop-event : goal.invariant-loop-event
invariant-loop-event l = first_some (books_own l.events l.id) (take l.event-index l.events) ≡ None
