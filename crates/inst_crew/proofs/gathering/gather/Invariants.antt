use Rattle.std.proofs.Common.{◌≡◌, ◌++◌, List}
use Rattle.std.specs.Prelude.{map, Ok}
use Rattle.std.specs.Vec.Iter.{into_iter_items}
use Rattle.inst_crew.specs.declared.shift.Shift.{Shift}
use Rattle.inst_crew.specs.inner.Workers.{IsGathered}
use Rattle.inst_crew.proofs.gathering.gather.Given as goal

abbrev pub invariant-loop-result : goal.invariant-loop-result
invariant-loop-result l =
    (goal.iterator-loop-result).can_next l.result-iterator ×
    (goal.iterator-loop-result).is_finite l.result-iterator ×
    ((shifts : List Shift) × (l.fn.results.items ≡ map Ok shifts ++ into_iter_items l.result-iterator) × IsGathered shifts l.crew)
