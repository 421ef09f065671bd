use Rattle.std.proofs.Common.{rules}
use Rattle.inst_slot.proofs.slot.Slot.open_place.Goals as goal

pub returns-clause-opens : goal.returns-clause-opens
returns-clause-opens g c = search rules
