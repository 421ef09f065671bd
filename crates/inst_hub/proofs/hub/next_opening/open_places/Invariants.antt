use Rattle.std.proofs.Common.{ℕ, List}
use Rattle.inst_journal.specs.declared.event.Event.{Event}
use Rattle.inst_cell.specs.Held.{settings_of}
use Rattle.inst_hub.specs.inner.NextOpening.{AreCarriedSlots}
use Rattle.inst_hub.proofs.BoardOfReopenedHub.{OpenedSoFar}
use Rattle.inst_hub.proofs.hub.next_opening.open_places.Given as goal

abbrev pub invariant-loop-slot : goal.invariant-loop-slot
invariant-loop-slot l = (books : ℕ → List Event) → AreCarriedSlots (settings_of l.fn.whole) books l.slots → OpenedSoFar (settings_of l.fn.whole) books l.slot-index l.fn.whole l.whole
