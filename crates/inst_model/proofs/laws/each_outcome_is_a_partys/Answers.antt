use Rattle.inst_model.proofs.Deciders.{each_outcome_is_a_partys}
use Rattle.inst_model.proofs.laws.each_outcome_is_a_partys.Goals as goal

pub returns : goal.returns
returns c = each_outcome_is_a_partys
