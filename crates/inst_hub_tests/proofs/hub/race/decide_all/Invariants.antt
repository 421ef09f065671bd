use Rattle.inst_hub.specs.Calls.{IsTellerOf}
use Rattle.inst_hub_tests.proofs.hub.race.decide_all.Given as goal

abbrev pub invariant-loop-index : goal.invariant-loop-index
invariant-loop-index g l = IsTellerOf l.hub l.teller
