use Rattle.std.proofs.Common.{sym, ap}
use Rattle.inst_board.specs.Standing.{place_state_of}
use Rattle.inst_board.proofs.plain.PlainBoardBoard.place_state.Goals as goal

pub returns-in-Unused-clause-look : goal.returns-in-Unused-clause-look
returns-in-Unused-clause-look c = (c.look.result, c.look.ensures.look, sym (ap place_state_of c.in-Unused.is))

pub returns-in-Pending-clause-look : goal.returns-in-Pending-clause-look
returns-in-Pending-clause-look c = (c.look.result, c.look.ensures.look, sym (ap place_state_of c.in-Pending.is))

pub returns-in-Decided-clause-look : goal.returns-in-Decided-clause-look
returns-in-Decided-clause-look c = (c.look.result, c.look.ensures.look, sym (ap place_state_of c.in-Decided.is))
