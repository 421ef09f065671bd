use Rattle.std.proofs.Common.{◌≡◌, ◌-◌, length}
use Rattle.inst_log.specs.Disks.{HasKeptFaith, IsOnlyRead}
use Rattle.inst_log.specs.Layout.{recovered_lines, AreWholeLines}
use Rattle.inst_log.specs.Pieces.{IsReading}
use Rattle.inst_log.proofs.reading.read_lines.Given as goal

abbrev pub invariant-loop-found : goal.invariant-loop-found
invariant-loop-found g l =
    record {
      reading : HasKeptFaith g.D.Disk l.disk → IsReading (g.D.Disk.seen l.fn.disk) l.lines (recovered_lines l.text.items);
      whole : AreWholeLines l.text.items;
      found : l.found ≡ length (recovered_lines l.text.items);
      read : IsOnlyRead g.D.Disk l.fn.disk l.disk;
      calm : g.D.Disk.faults l.disk ≡ g.D.Disk.faults l.fn.disk;
    }

abbrev pub decreases-loop-found : goal.decreases-loop-found
decreases-loop-found g l = l.lines.len - l.lines.cutter.at
