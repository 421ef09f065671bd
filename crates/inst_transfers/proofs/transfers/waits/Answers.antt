use Rattle.std.proofs.Common.{rules}
use Rattle.inst_transfers.proofs.transfers.waits.Goals as goal

pub returns-in-Some : goal.returns-in-Some
returns-in-Some c = search rules
