use Rattle.std.proofs.Common.{◌≡◌, ◌++◌, length}
use Rattle.std.specs.Vec.Iter.{into_iter_items}
use Rattle.inst_crew.specs.inner.Workers.{hands_of, workers_tellers}
use Rattle.inst_crew.proofs.worker.workers.Given as goal

abbrev pub invariant-loop-hand : goal.invariant-loop-hand
invariant-loop-hand l =
    (goal.iterator-loop-hand).can_next l.hand-iterator ×
    (goal.iterator-loop-hand).is_finite l.hand-iterator ×
    (length (into_iter_items l.tellers) ≡ length (into_iter_items l.hand-iterator)) ×
    (hands_of l.all.items ++ into_iter_items l.hand-iterator ≡ l.fn.hands.items) ×
    (workers_tellers l.all.items ++ into_iter_items l.tellers ≡ l.fn.tellers.items)
