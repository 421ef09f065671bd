use Rattle.std.proofs.Common.{◌≡◌, ◌-◌, ◌++◌, List, ℕ, Some}
use Rattle.inst_log.specs.Disks.{HasKeptFaith, IsOnlyRead}
use Rattle.inst_log.specs.Layout.{recovered_lines}
use Rattle.inst_log.specs.Pieces.{IsReading}
use Rattle.inst_logged.specs.inner.Answering.{AnswersAgain}
use Rattle.inst_logged.proofs.hub.replaying.replay.Given as goal

abbrev pub invariant-loop-lines : goal.invariant-loop-lines
invariant-loop-lines g l =
    record {
      done : List (List ℕ);
      again : AnswersAgain l.fn.recorder.answers.mode l.fn.told l.left l.fn.recorder.answers.runner l.recorder.answers.runner done
          (g.W.Write.contents l.fn.writer) (g.W.Write.contents l.writer);
      untouched : (l.left ≡ Some 0 → ⊥) → l.writer ≡ l.fn.writer;
      reading : HasKeptFaith g.D.Disk l.recorder.log.disk → IsReading (g.D.Disk.seen l.fn.recorder.log.disk) l.lines (recovered_lines l.header ++ done);
      mode : l.recorder.answers.mode ≡ l.fn.recorder.answers.mode;
      end : l.recorder.log.end ≡ l.fn.recorder.log.end;
      read : IsOnlyRead g.D.Disk l.fn.recorder.log.disk l.recorder.log.disk;
      calm : g.D.Disk.faults l.recorder.log.disk ≡ g.D.Disk.faults l.fn.recorder.log.disk;
    }

abbrev pub decreases-loop-lines : goal.decreases-loop-lines
decreases-loop-lines g l = l.lines.len - l.lines.cutter.at
