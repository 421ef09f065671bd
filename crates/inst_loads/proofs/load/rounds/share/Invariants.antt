use Rattle.inst_loads.specs.Jobs.{IsStill}
use Rattle.inst_loads.proofs.load.rounds.share.Given as goal

abbrev pub invariant-loop-number : goal.invariant-loop-number
invariant-loop-number g l = IsStill l.hub l.fn.job.teller l.teller
