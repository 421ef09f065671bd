use Rattle.inst_model.proofs.OutcomeFromOwnSteps.{outcome_is_local}
use Rattle.inst_model.proofs.laws.an_outcome_is_local.Goals as goal

pub returns : goal.returns
returns c = outcome_is_local
