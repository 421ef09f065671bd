use Rattle.std.proofs.Common.{rules}
use Rattle.inst_journal.proofs.journal.Journal.push.Goals as goal

pub returns-clause-ok : goal.returns-clause-ok
returns-clause-ok c = search rules
