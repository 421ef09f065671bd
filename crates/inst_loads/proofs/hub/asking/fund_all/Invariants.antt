use Rattle.inst_loads.specs.Jobs.{IsStill}
use Rattle.inst_loads.proofs.hub.asking.fund_all.Given as goal

abbrev pub invariant-loop-who : goal.invariant-loop-who
invariant-loop-who g l = IsStill l.hub l.fn.teller l.teller
