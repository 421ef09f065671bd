use Rattle.std.proofs.Common.{rules}
use Rattle.inst_books.specs.Reading.{funded_in}
use Rattle.inst_books.proofs.read.funded.Goals as goal

pub returns-clause-value : goal.returns-clause-value
unfolding funded_in
returns-clause-value c = search rules
