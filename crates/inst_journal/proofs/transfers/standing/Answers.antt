use Rattle.std.proofs.Common.{rules}
use Rattle.inst_journal.proofs.transfers.standing.Goals as goal

pub returns-in-Some : goal.returns-in-Some
returns-in-Some c = search rules
