use Rattle.std.proofs.Common.{◌≡◌, ◌+◌, ◌++◌}
use Rattle.std.specs.Vec.Iter.{into_iter_items}
use Rattle.inst_hub.specs.Opening.{row_parts}
use Rattle.inst_loads.specs.Jobs.{AreJobsOf, parts_of_jobs}
use Rattle.inst_loads.proofs.hub.job.jobs.Given as goal

abbrev pub invariant-loop-teller : goal.invariant-loop-teller
invariant-loop-teller l =
    (goal.iterator-loop-teller).can_next l.teller-iterator ×
    (goal.iterator-loop-teller).is_finite l.teller-iterator ×
    (l.yielded ++ into_iter_items l.teller-iterator ≡ l.fn.tellers.items) ×
    AreJobsOf l.hub l.jobs.items ×
    (parts_of_jobs l.jobs.items + row_parts (into_iter_items l.teller-iterator) ≡ row_parts l.fn.tellers.items)
