use Rattle.std.proofs.Common.{◌≡◌, ℕ, take}
use Rattle.std.specs.Prelude.{map, slice_get}
use Rattle.inst_due.specs.Due.{has}
use Rattle.inst_slot.specs.Waiting.{deadline_in}
use Rattle.inst_slot.proofs.OwnTransfersThatWait.{at_deadline}
use Rattle.inst_slot.proofs.SlotOpensAgain.{taken_of}
use Rattle.inst_slot.proofs.waiting.carried_waiting.Given as goal

abbrev pub invariant-loop-event : goal.invariant-loop-event
invariant-loop-event l =
    let book = l.ledger.book in
    (l.waiting.deadlines ≡ map (deadline_in book.settings) (taken_of book.who book.events (take l.event-index book.events)))
    × ((d k : ℕ) → has l.waiting.pairs d k ≡ at_deadline d (slice_get l.waiting.deadlines k))
