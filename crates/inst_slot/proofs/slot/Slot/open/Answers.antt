use Rattle.std.proofs.Common.{rules}
use Rattle.inst_slot.proofs.slot.Slot.open.Goals as goal

pub returns : goal.returns
returns c = search rules
