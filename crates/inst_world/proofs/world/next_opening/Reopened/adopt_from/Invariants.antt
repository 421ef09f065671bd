use Rattle.inst_world.specs.inner.NextOpening.{HaveFoundBefore, OnlyFinds}
use Rattle.inst_world.proofs.world.next_opening.Reopened.adopt_from.Given as goal

abbrev pub invariant-loop-index : goal.invariant-loop-index
invariant-loop-index l = record {
  found : HaveFoundBefore l.owner l.index l.self;
  finds : OnlyFinds l.fn.self l.self;
}
