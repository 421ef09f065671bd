use Rattle.std.proofs.Common.{rules}
use Rattle.inst_journal.proofs.transfers.decided.Goals as goal

pub returns-clause-kept : goal.returns-clause-kept
returns-clause-kept c = search rules
