use Rattle.inst_terms.proofs.WordsTellValuesApart.{words_apart}
use Rattle.inst_terms.proofs.laws.different_words_have_different_numbers.Goals as goal

pub returns : goal.returns
returns c = words_apart
