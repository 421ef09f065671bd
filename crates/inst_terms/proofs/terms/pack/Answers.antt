use Rattle.std.proofs.Common.{rules}
use Rattle.inst_terms.proofs.terms.pack.Goals as goal

pub returns-clause-words : goal.returns-clause-words
returns-clause-words c = search rules
