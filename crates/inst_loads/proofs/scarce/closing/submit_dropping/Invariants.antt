use Rattle.inst_loads.specs.Tellers.{AreAllOf}
use Rattle.inst_loads.proofs.scarce.closing.submit_dropping.Given as goal

abbrev pub invariant-loop-quanta : goal.invariant-loop-quanta
invariant-loop-quanta g l = AreAllOf l.hub l.tellers.items
