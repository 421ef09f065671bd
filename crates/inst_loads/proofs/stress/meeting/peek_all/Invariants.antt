use Rattle.inst_hub.specs.declared.hub.Hub.{Hub}
use Rattle.inst_hub.specs.Calls.{IsTellerOf}
use Rattle.inst_loads.specs.Jobs.{IsStill}
use Rattle.inst_loads.proofs.stress.meeting.peek_all.Given as goal

abbrev pub invariant-loop-number : goal.invariant-loop-number
invariant-loop-number l = (hub : Hub) → IsTellerOf hub l.fn.teller → IsStill hub l.fn.teller l.teller
