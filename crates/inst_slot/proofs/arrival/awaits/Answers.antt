use Rattle.std.proofs.Common.{rules}
use Rattle.inst_slot.proofs.arrival.awaits.Goals as goal

pub returns-then-eq : goal.returns-then-eq
returns-then-eq c = search rules
