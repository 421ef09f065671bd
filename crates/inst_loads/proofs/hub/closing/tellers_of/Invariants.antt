use Rattle.std.proofs.Common.{◌≡◌, ◌++◌}
use Rattle.std.specs.Prelude.{map}
use Rattle.std.specs.Vec.Iter.{into_iter_items}
use Rattle.inst_loads.proofs.hub.closing.tellers_of.Given as goal

abbrev pub invariant-loop-job : goal.invariant-loop-job
invariant-loop-job l =
    (goal.iterator-loop-job).can_next l.job-iterator ×
    (goal.iterator-loop-job).is_finite l.job-iterator ×
    (map (λ job. job.teller) l.fn.jobs.items ≡ l.tellers.items ++ map (λ job. job.teller) (into_iter_items l.job-iterator))
