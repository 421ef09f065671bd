use Rattle.inst_hub.specs.declared.hub.Hub.{Hub}
use Rattle.inst_loads.specs.Jobs.{AreJobsOf, AreStill}
use Rattle.inst_loads.proofs.stress.meeting.agree.Given as goal

abbrev pub invariant-loop-job : goal.invariant-loop-job
invariant-loop-job l = (hub : Hub) → AreJobsOf hub l.fn.jobs → AreStill hub l.fn.jobs l.jobs
