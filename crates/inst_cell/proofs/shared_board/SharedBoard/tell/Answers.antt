use Rattle.std.proofs.Common.{rules}
use Rattle.inst_cell.proofs.shared_board.SharedBoard.tell.Goals as goal

pub returns-clause-told : goal.returns-clause-told
returns-clause-told c = search rules

pub returns-clause-ticket : goal.returns-clause-ticket
returns-clause-ticket c = search rules
