use Rattle.std.proofs.Common.{take, ◌≤◌}
use Rattle.inst_slot.proofs.SpotsOfCarriedTransfers.{AreWalked}
use Rattle.inst_slot.proofs.arrivals.carried_arrivals.Given as goal

abbrev pub invariant-loop-event : goal.invariant-loop-event
invariant-loop-event l =
    let book = l.ledger.book in
    AreWalked book.who book.events (take l.event-index book.events) l.spots.items l.position × (l.position ≤ l.event-index)
