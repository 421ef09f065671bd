use Rattle.std.proofs.Common.{◌≡◌, ◌<◌, ◌-◌, ◌^◌, List, ℕ}
use Rattle.inst_log.specs.Disks.{HasKeptFaith, IsOnlyRead}
use Rattle.inst_log.specs.Pieces.{IsReading}
use Rattle.inst_chain.specs.Chain.{has_wanted}
use Rattle.inst_chain.specs.Checking.{HasGoneThrough}
use Rattle.inst_chain.proofs.verifying.verify_rest.Given as goal

abbrev pub invariant-loop-wanted : goal.invariant-loop-wanted
invariant-loop-wanted g l =
    record {
      reading : HasKeptFaith g.D.Disk l.disk → (done : List (List ℕ)) × IsReading (g.D.Disk.seen l.fn.disk) l.lines done
          × HasGoneThrough l.checker done × (l.has_wanted ≡ has_wanted l.fn.wanted done);
      fits : l.lines.len < 2 ^ 64;
      read : IsOnlyRead g.D.Disk l.fn.disk l.disk;
      calm : g.D.Disk.faults l.disk ≡ g.D.Disk.faults l.fn.disk;
    }

abbrev pub decreases-loop-wanted : goal.decreases-loop-wanted
decreases-loop-wanted g l = l.lines.len - l.lines.cutter.at
