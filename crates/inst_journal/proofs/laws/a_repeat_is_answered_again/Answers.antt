use Rattle.inst_journal.proofs.RepeatIsAnsweredAgain.{the_very_same, answered_again}
use Rattle.inst_journal.proofs.laws.a_repeat_is_answered_again.Goals as goal

pub returns-clause-same : goal.returns-clause-same
returns-clause-same c = the_very_same

pub returns-clause-answered : goal.returns-clause-answered
returns-clause-answered c = answered_again
