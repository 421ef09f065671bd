use Rattle.std.proofs.Common.{◌≡◌, ◌≤◌, ◌-◌, [], ◌++◌, map, length, drop}
use Rattle.inst_log.specs.Layout.{recovered_lines, AreWholeLines}
use Rattle.inst_logged.specs.Input.{logged_line}
use Rattle.inst_logged.specs.inner.Input.{lines_from, rest_from}
use Rattle.inst_logged.proofs.intake.push_lines.Given as goal

abbrev pub invariant-loop-len : goal.invariant-loop-len
invariant-loop-len l = record {
  within : length l.rest ≤ length l.bytes;
  suffix : drop (length l.bytes - length l.rest) l.bytes ≡ l.rest;
  whole : AreWholeLines l.batch.items;
  lines : recovered_lines l.batch.items ++ map logged_line (lines_from [] l.rest) ≡ recovered_lines l.fn.batch.items ++ map logged_line (lines_from [] l.bytes);
  rest : rest_from [] l.rest ≡ rest_from [] l.bytes;
}

abbrev pub decreases-loop-len : goal.decreases-loop-len
decreases-loop-len l = length l.rest
