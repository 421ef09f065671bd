-- A hub with a log between two reads.
use Rattle.std.specs.Prelude.{◌≡◌, ℕ, List, length, Option, IsTrue}
use Rattle.sqlite_disk.specs.declared.Disk.{Ghosts}
use Rattle.inst_base.specs.Newline.{NoNewline}
use Rattle.inst_log.specs.Disks.{HasKeptFaith}
use Rattle.inst_log.specs.Layout.{recovered_lines, IsShut}
use Rattle.inst_log.specs.Log.{IsOpenLog, IsBeforeOrAfter}
use Rattle.inst_log.specs.Serving.{Replies, TellsKept}
use Rattle.inst_log.specs.declared.log.Log.{Log}
use Rattle.inst_logged.specs.Intake.{line_part}
use Rattle.inst_logged.specs.Marking.{IsIntactBy}
use Rattle.inst_logged.specs.Running.{file_of}
use Rattle.inst_logged.specs.declared.hub.LoggedHub.{LoggedHub}

-- The log is open, and its file has this size.
pub record IsMeasured {D : Type 0} (disks : Ghosts D) (size : ℕ) (log : Log D) : Type 0 where
  pub is_open : IsOpenLog disks log
  pub size_is : HasKeptFaith disks log.disk → size ≡ length (disks.seen log.disk)

-- The hub can answer further lines: its log is open and has the known size and right marks, and no
-- whole line is held of the input.
pub record IsServing {D : Type 0} (disks : Ghosts D) (hub : LoggedHub D) : Type 0 where
  pub measured : IsMeasured disks hub.size hub.recorder.log
  pub intact : HasKeptFaith disks hub.recorder.log.disk
      → IsIntactBy hub.version (file_of disks hub) hub.marker
  pub part : NoNewline (line_part hub.intake)

-- While a batch is answered, each file that a crash may leave has the lines from before, with the
-- whole batch or none of it, and each line of whose reply a byte was written. If the disk leaves
-- each byte of a cut-off write old or new, the byte 0 follows the lines if it did before.
pub record KeepsBatch {D : Type 0} (disks : Ghosts D) (says : Replies → Type 0)
    (batch : List (List ℕ)) (old new : D) (before after : Option (List ℕ)) : Type 0 where
  pub kept : HasKeptFaith disks new → TellsKept recovered_lines (disks.may_leave new) says
      (recovered_lines (disks.seen old)) batch before after
  pub stands : HasKeptFaith disks new → (c : List ℕ) → disks.may_leave new c →
      IsBeforeOrAfter (recovered_lines (disks.seen old)) batch c
  pub shut : ((d : D) → IsTrue (disks.is_mixing d)) → HasKeptFaith disks new
      → IsShut (disks.seen old) → (c : List ℕ) → disks.may_leave new c → IsShut c
  pub clean : HasKeptFaith disks new → HasKeptFaith disks old
