use Rattle.std.proofs.Common.{rules}
use Rattle.inst_statement.proofs.kept_statement.KeptStatement.position_after.Goals as goal

pub returns-in-Defunded : goal.returns-in-Defunded
returns-in-Defunded c = search rules
