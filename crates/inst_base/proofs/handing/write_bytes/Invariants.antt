use Rattle.std.proofs.Common.{length}
use Rattle.inst_base.specs.Handing.{WritesFirst}
use Rattle.inst_base.proofs.handing.write_bytes.Given as goal

abbrev pub invariant-loop-rest : goal.invariant-loop-rest
invariant-loop-rest g l = WritesFirst (g.W.Write.contents l.initial.writer) (g.W.Write.contents l.writer) l.bytes l.rest

abbrev pub decreases-loop-rest : goal.decreases-loop-rest
decreases-loop-rest g l = length l.rest
