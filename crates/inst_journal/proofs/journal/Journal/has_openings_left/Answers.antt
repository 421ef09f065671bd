use Rattle.std.proofs.Common.{rules}
use Rattle.inst_journal.proofs.journal.Journal.has_openings_left.Goals as goal

pub returns-clause-left : goal.returns-clause-left
returns-clause-left c = search rules
