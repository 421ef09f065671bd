use Rattle.std.proofs.Common.{◌≡◌}
use Rattle.inst_loads.proofs.scarce.step_rows.step_in_want.Given as goal

abbrev pub invariant-loop-quanta : goal.invariant-loop-quanta
invariant-loop-quanta l = l.world.board.settings ≡ l.fn.world.board.settings
