use Rattle.std.proofs.Common.{rules}
use Rattle.inst_transfers.proofs.transfers.Transfers.find_last.Goals as goal

pub returns : goal.returns
returns c = search rules
