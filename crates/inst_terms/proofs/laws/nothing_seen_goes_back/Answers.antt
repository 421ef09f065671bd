use Rattle.inst_terms.proofs.OrderOfLawfulWords.{never_back}
use Rattle.inst_terms.proofs.laws.nothing_seen_goes_back.Goals as goal

pub returns : goal.returns
returns c = never_back
