use Rattle.std.proofs.Common.{◌≡◌, ℕ, ◌<◌, Some, slice_get}
use Rattle.clap.specs.Words.{found_of, rows_of}
use Rattle.inst_options.specs.BadOptions.{IsInside}
use Rattle.inst_options.specs.inner.BadOptions.{range_of}
use Rattle.inst_options.specs.declared.bad_option.Bound.{Bound}
use Rattle.inst_options.proofs.bad_option.number_out_of_range.Given as goal

abbrev pub invariant-loop-bound : goal.invariant-loop-bound
invariant-loop-bound l = (i : ℕ) (row : Bound) → i < l.bound-index → slice_get l.bound-items i ≡ Some row → IsInside (rows_of (found_of l.options)) (range_of row)
