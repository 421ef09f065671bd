use Rattle.std.proofs.Common.{rules}
use Rattle.inst_json.proofs.checks.amount.Goals as goal

pub returns-clause-fits : goal.returns-clause-fits
returns-clause-fits c = search rules
