use Rattle.inst_desk.proofs.StepsKeepDeskRule.{takes, may_lie}
use Rattle.inst_desk.proofs.desk.Desk.take.Goals as goal

pub pop_as-requires-clause-rule : goal.pop_as-requires-clause-rule
pop_as-requires-clause-rule g c = (takes _ _ c.requires.of.some_part, may_lie _ _)
