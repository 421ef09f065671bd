use Rattle.std.proofs.Common.{◌≡◌, drop}
use Rattle.clap.specs.Words.{app_of}
use Rattle.inst_options.specs.inner.Table.{with_rows}
use Rattle.inst_options.proofs.command_line.command_line.Given as goal

-- the rows that are still to come make of the program what all of them make of it as the loop begins
abbrev pub invariant-loop-row : goal.invariant-loop-row
invariant-loop-row l =
    with_rows (app_of l.program) (drop l.row-index l.row-items) ≡ with_rows (app_of l.initial.program) l.row-items
