use Rattle.inst_desk.proofs.StepsKeepDeskRule.{gathers}
use Rattle.inst_desk.proofs.desk.ending.join.Goals as goal

pub absorb-requires-clause-rule : goal.absorb-requires-clause-rule
absorb-requires-clause-rule c = gathers _ _ _ _
