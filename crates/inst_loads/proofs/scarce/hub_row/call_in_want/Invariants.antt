use Rattle.inst_hub.specs.Calls.{IsTellerOf}
use Rattle.inst_loads.proofs.scarce.hub_row.call_in_want.Given as goal

abbrev pub invariant-loop-quanta : goal.invariant-loop-quanta
invariant-loop-quanta g l = IsTellerOf l.hub l.teller
