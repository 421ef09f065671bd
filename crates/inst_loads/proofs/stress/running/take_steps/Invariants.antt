use Rattle.inst_loads.specs.Jobs.{IsStill}
use Rattle.inst_loads.proofs.stress.running.take_steps.Given as goal

abbrev pub invariant-loop-step : goal.invariant-loop-step
invariant-loop-step g l = IsStill l.hub l.fn.teller l.teller
