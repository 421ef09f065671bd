use Rattle.std.proofs.Common.{rules}
use Rattle.inst_ledger.proofs.ledger.Ledger.carry.Goals as goal

pub returns : goal.returns
returns c = search rules
