use Rattle.std.proofs.Common.{◌≡◌, ◌≤◌, ◌+◌, length}
use Rattle.inst_log.specs.Layout.{recovered_lines, blocks}
use Rattle.inst_log.proofs.front.kept_len.Given as goal

abbrev pub invariant-loop-len : goal.invariant-loop-len
invariant-loop-len l =
    record {
      within : length l.rest ≤ length l.bytes;
      size : length (blocks (recovered_lines l.bytes)) + length l.rest ≡ length l.bytes + length (blocks (recovered_lines l.rest));
    }

abbrev pub decreases-loop-len : goal.decreases-loop-len
decreases-loop-len l = length l.rest
