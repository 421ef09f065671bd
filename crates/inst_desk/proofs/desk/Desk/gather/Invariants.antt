use Rattle.std.specs.Vec.Iter.{into_iter_items}
use Rattle.crossbeam_queue.specs.Passes.{IsPassOf}
use Rattle.inst_desk.specs.Desk.{account_of, AreHandsOf}
use Rattle.inst_desk.proofs.Hands.{Gathers}
use Rattle.inst_desk.proofs.desk.Desk.gather.Given as goal

abbrev pub invariant-loop-hand : goal.invariant-loop-hand
invariant-loop-hand l =
    (goal.iterator-loop-hand).can_next l.hand-iterator ×
    (goal.iterator-loop-hand).is_finite l.hand-iterator ×
    IsPassOf l.self.queue l.whole.seat ×
    AreHandsOf l.self (into_iter_items l.hand-iterator) ×
    Gathers (account_of l.whole) (into_iter_items l.hand-iterator) l.fn.hands.items
