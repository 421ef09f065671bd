use Rattle.inst_cell.proofs.BoardsAtOpening.{opened_dealt}
use Rattle.inst_cell.proofs.shared_board.SharedBoard.open.Goals as goal

pub returns-clause-ok : goal.returns-clause-ok
returns-clause-ok c = opened_dealt c.args.settings.now c.args.tellers c.in_ok-all.all c.in_ok-deal.field-0.items c.in_ok-all.sights.items c.in_ok-all.ensures.whole c.in_ok-all.ensures.sights c.in_ok-deal.ensures.boards
