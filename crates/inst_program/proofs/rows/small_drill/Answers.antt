use Rattle.std.proofs.Common.{arith}
use Rattle.inst_options.specs.Rows.{small_settings}
use Rattle.inst_options.specs.Options.Task.{Drill}
use Rattle.inst_program.specs.Program.{MayDo}
use Rattle.inst_program.proofs.rows.small_drill.Goals as goal

can_drill : MayDo small_settings (Drill 2 1)
can_drill = record {
  two = omega arith;
  some_transfer = omega arith;
  places = omega arith;
  funding = omega arith;
  some_opening = omega arith;
  most_openings = omega arith;
}

pub returns : goal.returns
returns c = can_drill
