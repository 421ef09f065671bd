use Rattle.std.proofs.Common.{length}
use Rattle.inst_chain.proofs.ProgressOfChecker.{Takes}
use Rattle.inst_chain.proofs.checker.Checker.check_lines.Given as goal

abbrev pub invariant-loop-len : goal.invariant-loop-len
invariant-loop-len l = Takes l.fn.self l.self l.bytes l.rest

abbrev pub decreases-loop-len : goal.decreases-loop-len
decreases-loop-len l = length l.rest
