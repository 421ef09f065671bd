use Rattle.std.proofs.Common.{rules}
use Rattle.inst_journal.proofs.journal.Journal.reserve.Goals as goal

pub returns-clause-room : goal.returns-clause-room
returns-clause-room c = search rules
