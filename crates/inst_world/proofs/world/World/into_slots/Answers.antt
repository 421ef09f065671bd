use Rattle.std.proofs.Common.{rules}
use Rattle.inst_world.proofs.world.World.into_slots.Goals as goal

pub returns-clause-slots : goal.returns-clause-slots
returns-clause-slots c = search rules
