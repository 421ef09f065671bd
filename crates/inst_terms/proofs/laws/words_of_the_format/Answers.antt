use Rattle.std.proofs.Common.{refl}
use Rattle.inst_terms.specs.Identifier.{sum_below}
use Rattle.inst_terms.proofs.laws.words_of_the_format.Goals as goal

pub returns : goal.returns
unfolding sum_below
returns c = (
  record { usual = refl; largest = refl; longest = refl },
  record { unused = refl; pending = refl; last = refl; accepted = refl; rejected = refl; timed_out = refl },
)
