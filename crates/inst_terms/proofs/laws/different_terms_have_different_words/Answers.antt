use Rattle.inst_terms.proofs.WordsTellValuesApart.{terms_apart}
use Rattle.inst_terms.proofs.laws.different_terms_have_different_words.Goals as goal

pub returns : goal.returns
returns c = terms_apart
