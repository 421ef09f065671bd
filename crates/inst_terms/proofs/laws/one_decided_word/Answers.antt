use Rattle.inst_terms.proofs.OrderOfLawfulWords.{one_decided}
use Rattle.inst_terms.proofs.laws.one_decided_word.Goals as goal

pub returns : goal.returns
returns c = one_decided
