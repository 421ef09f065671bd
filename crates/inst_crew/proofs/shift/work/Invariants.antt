use Rattle.inst_crew.specs.inner.Workers.{Works}
use Rattle.inst_crew.proofs.shift.work.Given as goal

abbrev pub invariant-loop : goal.invariant-loop
invariant-loop g l =
    (goal.iterator-loop g).can_next l.iterator' × (goal.iterator-loop g).is_finite l.iterator' × Works l.place.hub.now l.place.desk.now l.fn.worker l.shift
