use Rattle.std.proofs.Common.{rules}
use Rattle.inst_terms.proofs.reason.pack_reason.Goals as goal

pub returns-clause-value : goal.returns-clause-value
returns-clause-value c = search rules
