use Rattle.inst_cell.proofs.BoardsAtOpening.{Dealt}
use Rattle.inst_cell.proofs.shared_board.SharedBoard.deal.Given as goal

abbrev pub invariant-loop-next : goal.invariant-loop-next
invariant-loop-next l = Dealt l.fn.self l.fn.self.participants l._next l.all l.boards.items
