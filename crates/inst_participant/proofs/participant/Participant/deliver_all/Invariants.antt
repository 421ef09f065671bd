use Rattle.inst_participant.proofs.SweepStepByStep.{On, LeftOfOwners}
use Rattle.inst_participant.proofs.participant.Participant.deliver_all.Given as goal

abbrev pub invariant-loop-owner : goal.invariant-loop-owner
invariant-loop-owner l = On l.fn.self l.self × LeftOfOwners l.owner l.owner-end l.fn.self l.self
