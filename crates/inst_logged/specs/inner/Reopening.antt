-- A log that was opened and whose lines were answered again.
use Rattle.std.specs.Prelude.{◌≡◌, ◌++◌, ℕ, List, length, Option}
use Rattle.sqlite_disk.specs.declared.Disk.{Ghosts}
use Rattle.inst_log.specs.Layout.{recovered_lines}
use Rattle.inst_log.specs.Log.{IsSettled}
use Rattle.inst_log.specs.Opening.{lines_after_settings}
use Rattle.inst_chain.specs.declared.digest.Digest.{Digest}
use Rattle.inst_logged.specs.Marking.{IsIntactBy}
use Rattle.inst_logged.specs.Running.{disk_of, file_of, Takes}
use Rattle.inst_logged.specs.inner.Replaying.{IsReplayed}
use Rattle.inst_logged.specs.declared.hub.LoggedHub.{LoggedHub}

-- The hub took the log, whose lines are synced and the same, and wrote the replies after the first
-- `told`. It has the marker for the next mark and the file's size; the disk counted no fault.
pub record Reopens {D : Type 0} (disks : Ghosts D) (told : Option ℕ) (wanted : Option Digest)
    (old new : LoggedHub D) (held held' : Option (List ℕ))
    : Type 0 where
  pub taken : Takes disks old told wanted
  pub settled : IsSettled disks.seen disks.may_leave new.recorder.log
  pub lines : recovered_lines (file_of disks new)
      ≡ recovered_lines old.header.items
      ++ lines_after_settings old.header.items (file_of disks old)
  pub intact : IsIntactBy old.version (file_of disks new) new.marker
  pub replayed : IsReplayed old.recorder.answers.mode told old.recorder.answers.runner
      new.recorder.answers.runner
      (lines_after_settings old.header.items (file_of disks old)) held held'
  pub calm : disks.faults (disk_of new) ≡ disks.faults (disk_of old)
  pub size : new.size ≡ length (file_of disks new)
