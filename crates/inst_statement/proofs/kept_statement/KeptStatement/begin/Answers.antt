use Rattle.std.proofs.Common.{rules}
use Rattle.inst_statement.proofs.kept_statement.KeptStatement.begin.Goals as goal

pub returns-clause-begun : goal.returns-clause-begun
returns-clause-begun c = search rules
