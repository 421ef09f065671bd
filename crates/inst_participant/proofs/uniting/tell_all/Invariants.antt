use Rattle.std.proofs.Common.{List}
use Rattle.std.specs.Vec.Iter.{into_iter_items}
use Rattle.inst_cell.specs.declared.sight.Sight.{Sight}
use Rattle.inst_participant.proofs.BooksLawfulOverJoinedBoard.{ToldSoFar}
use Rattle.inst_participant.proofs.uniting.tell_all.Given as goal

abbrev pub invariant-loop-sight : goal.invariant-loop-sight
invariant-loop-sight l =
    (goal.iterator-loop-sight).can_next l.sight-iterator ×
    (goal.iterator-loop-sight).is_finite l.sight-iterator ×
    ((done : List Sight) × ToldSoFar l.fn.whole l.fn.sights.items done (into_iter_items l.sight-iterator) l.whole)
