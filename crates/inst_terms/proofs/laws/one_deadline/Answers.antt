use Rattle.inst_terms.proofs.OrderOfLawfulWords.{one_deadline}
use Rattle.inst_terms.proofs.laws.one_deadline.Goals as goal

pub returns : goal.returns
returns c = one_deadline
