use Rattle.std.proofs.Common.{length}
use Rattle.inst_chain.proofs.SummaryOfLines.{Went}
use Rattle.inst_chain.proofs.summary.Seen.add.Given as goal

abbrev pub invariant-loop-len : goal.invariant-loop-len
invariant-loop-len l = Went l.fn.self l.self l.bytes l.rest

abbrev pub decreases-loop-len : goal.decreases-loop-len
decreases-loop-len l = length l.rest
