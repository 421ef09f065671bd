use Rattle.std.proofs.Common.{rules}
use Rattle.inst_ledger.proofs.ledger.Ledger.is_new_funding.Goals as goal

pub returns : goal.returns
returns c = search rules
