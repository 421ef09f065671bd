use Rattle.inst_world.specs.inner.NextOpening.{HaveFoundBefore, OnlyFinds}
use Rattle.inst_world.proofs.world.next_opening.Reopened.adopt_all.Given as goal

abbrev pub invariant-loop-owner : goal.invariant-loop-owner
invariant-loop-owner l = record {
  found : HaveFoundBefore l.owner 0 l.self;
  finds : OnlyFinds l.fn.self l.self;
}
