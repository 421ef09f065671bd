use Rattle.std.proofs.Common.{◌≡◌}
use Rattle.inst_world.proofs.FirstOpening.{new_books}
use Rattle.inst_world.proofs.world.World.open.Given as goal

abbrev pub invariant-loop-who : goal.invariant-loop-who
invariant-loop-who l = l.slots.items ≡ new_books l.settings l.who
