use Rattle.inst_drill.proofs.DrilledOpenings.{DrilledSoFar}
use Rattle.inst_drill.proofs.drilling.drill.Given as goal

abbrev pub invariant-loop-done : goal.invariant-loop-done
invariant-loop-done g l =
    DrilledSoFar l.fn.request.settings (g.W.Write.contents l.fn.writer) (g.W.Write.contents l.writer) l.done l.books l.steps.items
