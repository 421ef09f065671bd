use Rattle.inst_cell.proofs.BoardsAtOpening.{Seated}
use Rattle.inst_cell.proofs.shared_board.SharedBoard.admit.Given as goal

abbrev pub invariant-loop-next : goal.invariant-loop-next
invariant-loop-next l = Seated l.fn.self l._next l.self l.all.items
