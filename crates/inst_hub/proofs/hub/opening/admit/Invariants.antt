use Rattle.std.proofs.Common.{◌≡◌, ◌+◌, ◌++◌, ◌∷◌, [], length}
use Rattle.std.specs.Vec.Iter.{into_iter_items}
use Rattle.inst_row.specs.Row.{row_id, key_of}
use Rattle.inst_row.specs.Seated.{IsOn, IsIdle, view_of}
use Rattle.inst_hub.specs.Opening.{AreNew, row_parts}
use Rattle.inst_hub.proofs.hub.opening.admit.Given as goal

abbrev pub invariant-loop-sight : goal.invariant-loop-sight
invariant-loop-sight l =
    (goal.iterator-loop-sight).can_next l.sight-iterator ×
    (goal.iterator-loop-sight).is_finite l.sight-iterator ×
    IsOn (row_id l.row) (key_of l.row) l.seat ×
    IsIdle l.seat ×
    ((view_of l.seat).fronts ≡ (view_of l.fn.seat).fronts) ×
    (l.yielded ++ (into_iter_items l.sight-iterator ++ l.last ∷ []) ≡ l.fn.sights.items) ×
    (length l.all.items ≡ length l.yielded) ×
    AreNew (row_id l.row) (key_of l.row) (view_of l.fn.seat).fronts l.all.items ×
    ((view_of l.seat).parts + length l.yielded ≡ 16) ×
    (row_parts l.all.items ≡ length l.yielded)
