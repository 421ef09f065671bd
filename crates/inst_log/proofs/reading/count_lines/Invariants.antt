use Rattle.std.proofs.Common.{◌≡◌, ◌≤◌, ◌+◌, length}
use Rattle.inst_log.specs.Layout.{recovered_lines}
use Rattle.inst_log.proofs.reading.count_lines.Given as goal

abbrev pub invariant-loop-len : goal.invariant-loop-len
invariant-loop-len l =
    record {
      counted : l.count + length (recovered_lines l.rest) ≡ length (recovered_lines l.bytes);
      within : l.count + length l.rest ≤ length l.bytes;
    }

abbrev pub decreases-loop-len : goal.decreases-loop-len
decreases-loop-len l = length l.rest
