use Rattle.std.proofs.Common.{rules}
use Rattle.inst_terms.proofs.outcome.number.Goals as goal

pub returns : goal.returns
returns c = search rules
