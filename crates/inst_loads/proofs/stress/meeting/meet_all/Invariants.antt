use Rattle.inst_loads.specs.Jobs.{AreStill, IsStill}
use Rattle.inst_loads.proofs.stress.meeting.meet_all.Given as goal

abbrev pub invariant-loop-job : goal.invariant-loop-job
invariant-loop-job l = AreStill l.hub l.fn.jobs l.jobs × IsStill l.hub l.fn.teller l.teller
