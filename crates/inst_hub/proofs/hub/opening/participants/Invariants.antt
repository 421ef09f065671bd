use Rattle.std.proofs.Common.{◌≡◌, ◌++◌, length}
use Rattle.std.specs.Vec.Iter.{into_iter_items}
use Rattle.inst_hub.specs.inner.Opening.{unboxed, AreParticipants}
use Rattle.inst_hub.proofs.hub.opening.participants.Given as goal

abbrev pub invariant-loop-board : goal.invariant-loop-board
invariant-loop-board l =
    (goal.iterator-loop-board).can_next l.board-iterator ×
    (goal.iterator-loop-board).is_finite l.board-iterator ×
    (l.who ≡ length l.yielded) ×
    (l.yielded ++ into_iter_items l.board-iterator ≡ l.fn.boards.items) ×
    AreParticipants l.yielded (unboxed l.all.items)
