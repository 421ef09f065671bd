use Rattle.std.proofs.Common.{rules}
use Rattle.inst_journal.proofs.booked.is_own.Goals as goal

pub returns-then-eq : goal.returns-then-eq
returns-then-eq c = search rules
