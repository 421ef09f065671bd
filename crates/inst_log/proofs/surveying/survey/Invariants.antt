use Rattle.std.proofs.Common.{◌≡◌, ◌-◌, List, ℕ}
use Rattle.inst_log.specs.Disks.{HasKeptFaith, IsOnlyRead}
use Rattle.inst_log.specs.Pieces.{IsReading}
use Rattle.inst_log.proofs.surveying.survey.Given as goal

abbrev pub invariant-loop-lines : goal.invariant-loop-lines
invariant-loop-lines g l =
    record {
      reading : HasKeptFaith g.D.Disk l.disk → (done : List (List ℕ)) × IsReading (g.D.Disk.seen l.fn.disk) l.lines done;
      read : IsOnlyRead g.D.Disk l.fn.disk l.disk;
      calm : g.D.Disk.faults l.disk ≡ g.D.Disk.faults l.fn.disk;
    }

abbrev pub decreases-loop-lines : goal.decreases-loop-lines
decreases-loop-lines g l = l.lines.len - l.lines.cutter.at
