use Rattle.std.proofs.Common.{◌≡◌, ◌++◌, length}
use Rattle.std.specs.Vec.Iter.{into_iter_items}
use Rattle.inst_hub.specs.inner.NextOpening.{pairs, seated}
use Rattle.inst_hub.specs.inner.Opening.{unboxed}
use Rattle.inst_hub.proofs.hub.next_opening.seat.Given as goal

abbrev pub invariant-loop-slot : goal.invariant-loop-slot
invariant-loop-slot l =
    (goal.iterator-loop-slot).can_next l.slot-iterator ×
    (goal.iterator-loop-slot).is_finite l.slot-iterator ×
    (length (into_iter_items l.boards) ≡ length (into_iter_items l.slot-iterator)) ×
    (unboxed l.all.items ++ pairs seated (into_iter_items l.slot-iterator) (into_iter_items l.boards) ≡ pairs seated l.fn.slots.items l.fn.boards.items)
