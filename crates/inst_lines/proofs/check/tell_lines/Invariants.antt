use Rattle.std.proofs.Common.{length}
use Rattle.inst_lines.proofs.RefusedLinesToldSoFar.{ToldFirst}
use Rattle.inst_lines.proofs.check.tell_lines.Given as goal

abbrev pub invariant-loop-len : goal.invariant-loop-len
invariant-loop-len l = ToldFirst l.settings l.input l.rest l.number l.initial.out.items l.out.items

abbrev pub decreases-loop-len : goal.decreases-loop-len
decreases-loop-len l = length l.rest
