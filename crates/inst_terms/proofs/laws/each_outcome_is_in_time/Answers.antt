use Rattle.inst_terms.proofs.OrderOfLawfulWords.{in_time}
use Rattle.inst_terms.proofs.laws.each_outcome_is_in_time.Goals as goal

pub returns : goal.returns
returns c = in_time
