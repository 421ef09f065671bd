use Rattle.std.proofs.Common.{◌≡◌, ◌++◌, List, Ok}
use Rattle.std.specs.Prelude.{map}
use Rattle.std.specs.Vec.Iter.{into_iter_items}
use Rattle.inst_loads.specs.declared.hub.done.Done.{Done}
use Rattle.inst_loads.proofs.hub.done.gather.Given as goal

abbrev pub invariant-loop-result : goal.invariant-loop-result
invariant-loop-result g l =
    (goal.iterator-loop-result g).can_next l.result-iterator ×
    (goal.iterator-loop-result g).is_finite l.result-iterator ×
    ((dones : List (Done g.row.T.Denot)) × (l.fn.results.items ≡ map Ok dones ++ into_iter_items l.result-iterator) × (l.jobs.items ≡ map (λ x. x.job) dones))
