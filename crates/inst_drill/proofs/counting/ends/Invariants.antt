use Rattle.inst_drill.proofs.TransferEnds.{Counted}
use Rattle.inst_drill.proofs.counting.ends.Given as goal

abbrev pub invariant-loop-event : goal.invariant-loop-event
invariant-loop-event l = Counted l.events l.event-index l.counts.0 l.counts.1
