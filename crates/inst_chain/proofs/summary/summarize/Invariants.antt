use Rattle.std.proofs.Common.{IfSome}
use Rattle.inst_chain.specs.inner.Summing.{HasRead}
use Rattle.inst_chain.proofs.summary.summarize.Given as goal

abbrev pub invariant-loop : goal.invariant-loop
invariant-loop g l = IfSome (g.R.Read.remaining l.fn.reader) (λ file. HasRead l.reading file (g.R.Read.remaining l.reader))
