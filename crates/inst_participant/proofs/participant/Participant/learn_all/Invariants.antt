use Rattle.std.proofs.Common.{◌-◌, length}
use Rattle.inst_participant.proofs.SweepStepByStep.{On, LeftToLearn}
use Rattle.inst_participant.proofs.participant.Participant.learn_all.Given as goal

abbrev pub invariant-loop-position : goal.invariant-loop-position
invariant-loop-position l = On l.fn.self l.self × LeftToLearn l.from l.fn.self l.self

abbrev pub decreases-loop-position : goal.decreases-loop-position
decreases-loop-position l = length l.self.slot.arrivals - l.from
