use Rattle.inst_desk.proofs.StepsKeepDeskRule.{puts, may_lie}
use Rattle.inst_desk.proofs.desk.Desk.put.Goals as goal

pub push_as-requires-clause-rule : goal.push_as-requires-clause-rule
push_as-requires-clause-rule g c = (puts _ _ _ _ c.requires.of.some_part, may_lie _ _)
