use Rattle.std.proofs.Common.{rules}
use Rattle.inst_slot.proofs.slot.Slot.place_of.Goals as goal

pub returns-in_ok-index : goal.returns-in_ok-index
returns-in_ok-index c = search rules

pub returns-in_ok-index-2 : goal.returns-in_ok-index-2
returns-in_ok-index-2 c = search rules
