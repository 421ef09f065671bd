use Rattle.inst_participant.proofs.SweepStepByStep.{On, LeftOfPlaces}
use Rattle.inst_participant.proofs.participant.Participant.deliver_from.Given as goal

abbrev pub invariant-loop-index : goal.invariant-loop-index
invariant-loop-index l = On l.fn.self l.self × LeftOfPlaces l.owner l.index l.index-end l.fn.self l.self
