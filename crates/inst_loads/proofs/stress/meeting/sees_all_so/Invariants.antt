use Rattle.inst_hub.specs.declared.hub.Hub.{Hub}
use Rattle.inst_hub.specs.Calls.{IsTellerOf}
use Rattle.inst_loads.specs.Jobs.{IsStill}
use Rattle.inst_loads.proofs.stress.meeting.sees_all_so.Given as goal

abbrev pub invariant-loop-slot : goal.invariant-loop-slot
invariant-loop-slot l = (hub : Hub) → IsTellerOf hub l.fn.teller → IsStill hub l.fn.teller l.teller
