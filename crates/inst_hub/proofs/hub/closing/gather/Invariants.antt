use Rattle.std.proofs.Common.{◌≤◌, List, length}
use Rattle.std.specs.Prelude.{vec_capacity}
use Rattle.std.specs.Vec.Iter.{into_iter_items}
use Rattle.inst_row.specs.Row.{row_id, key_of}
use Rattle.inst_hub.specs.declared.teller.Teller.{Teller}
use Rattle.inst_hub.proofs.JoinedSeatsOfTellers.{Gathered}
use Rattle.inst_hub.proofs.hub.closing.gather.Given as goal

abbrev pub invariant-loop-teller : goal.invariant-loop-teller
invariant-loop-teller l =
    (goal.iterator-loop-teller).can_next l.teller-iterator ×
    (goal.iterator-loop-teller).is_finite l.teller-iterator ×
    (length l.fn.tellers.items ≤ vec_capacity l.sights) ×
    ((done : List Teller) × Gathered (row_id l.fn.row) (key_of l.fn.row) l.fn.tellers.items done (into_iter_items l.teller-iterator) l.whole l.sights.items)
