use Rattle.inst_participant.proofs.SweepStepByStep.{On, InRange, pairs_left, LeftToExpire}
use Rattle.inst_participant.proofs.participant.Participant.let_expire.Given as goal

abbrev pub invariant-loop-deadline : goal.invariant-loop-deadline
invariant-loop-deadline l = On l.fn.self l.self × InRange l.last × LeftToExpire l.at l.last l.fn.self l.self

abbrev pub decreases-loop-deadline : goal.decreases-loop-deadline
decreases-loop-deadline l = pairs_left l.last
