use Rattle.inst_loads.specs.Jobs.{IsStill}
use Rattle.inst_loads.proofs.stress.settling.fetch_all.Given as goal

abbrev pub invariant-loop-number : goal.invariant-loop-number
invariant-loop-number g l = IsStill l.hub l.fn.teller l.teller
