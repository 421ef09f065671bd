use Rattle.std.proofs.Common.{rules}
use Rattle.inst_journal.proofs.journal.Journal.net.Goals as goal

pub returns : goal.returns
returns c = search rules
