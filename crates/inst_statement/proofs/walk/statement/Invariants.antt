use Rattle.std.proofs.Common.{take}
use Rattle.inst_statement.proofs.WalkAtEachFront.{Stands}
use Rattle.inst_statement.proofs.walk.statement.Given as goal

abbrev pub invariant-loop-index : goal.invariant-loop-index
invariant-loop-index l = Stands (take l.index l.journal.events) l.transfers.taken l.transfers.forwarded l.statement
