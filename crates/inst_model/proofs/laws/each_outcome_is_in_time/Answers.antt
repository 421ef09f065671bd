use Rattle.inst_model.proofs.OutcomesAreInTime.{each_outcome_is_in_time}
use Rattle.inst_model.proofs.laws.each_outcome_is_in_time.Goals as goal

pub returns : goal.returns
returns c = each_outcome_is_in_time
