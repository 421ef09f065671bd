use Rattle.std.proofs.Common.{◌≡◌, ◌≤◌, ◌+◌, length, take, drop}
use Rattle.inst_log.specs.Layout.{recovered_lines, blocks}
use Rattle.inst_log.proofs.reading.lines_len.Given as goal

abbrev pub invariant-loop : goal.invariant-loop
invariant-loop l =
    record {
      within : length l.rest ≤ length l.bytes;
      enough : l.counter ≤ length (recovered_lines l.bytes);
      left : recovered_lines l.rest ≡ drop l.counter (recovered_lines l.bytes);
      size : length (blocks (take l.counter (recovered_lines l.bytes))) + length l.rest ≡ length l.bytes;
    }
