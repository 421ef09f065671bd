use Rattle.std.proofs.Common.{List}
use Rattle.std.specs.Vec.Iter.{into_iter_items}
use Rattle.inst_cell.specs.declared.shared_board.SharedBoard.{SharedBoard}
use Rattle.inst_participant.proofs.BooksLawfulOverJoinedBoard.{SoFar}
use Rattle.inst_participant.proofs.uniting.join_all.Given as goal

abbrev pub invariant-loop-board : goal.invariant-loop-board
invariant-loop-board l =
    (goal.iterator-loop-board).can_next l.board-iterator ×
    (goal.iterator-loop-board).is_finite l.board-iterator ×
    ((done : List SharedBoard) × SoFar l.fn.settings l.fn.slots l.fn.boards.items done (into_iter_items l.board-iterator) l.whole)
