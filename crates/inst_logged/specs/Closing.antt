-- The result of closing a hub with a log. A choice of this hub.
use Rattle.std.specs.Prelude.{◌≡◌, ◌++◌, List, Option, None}
use Rattle.sqlite_disk.specs.declared.Disk.{Ghosts}
use Rattle.inst_journal.specs.History.{History}
use Rattle.inst_world.specs.HasRun.{world_settings}
use Rattle.inst_lines.specs.Answering.{HubPast}
use Rattle.inst_log.specs.Layout.{recovered_lines}
use Rattle.inst_log.specs.Opening.{lines_after_settings}
use Rattle.inst_chain.specs.declared.digest.Digest.{Digest}
use Rattle.inst_logged.specs.Answering.{AreBooksAfter, past_after}
use Rattle.inst_logged.specs.Running.{file_of, HasGone, Takes}
use Rattle.inst_logged.specs.declared.hub.LoggedHub.{LoggedHub}

-- The hub took its log, whose lines stay the same, and was closed after them. These are its books.
pub record ClosesWith {D : Type 0} (disks : Ghosts D) (wanted : Option Digest)
    (old new : LoggedHub D) (journals : List History) : Type 0 where
  pub taken : Takes disks old None wanted
  pub lines : recovered_lines (file_of disks new)
      ≡ recovered_lines old.header.items
      ++ lines_after_settings old.header.items (file_of disks old)
  pub are : (past : HubPast) → HasGone old past
      → AreBooksAfter old.recorder.answers.mode past
      (lines_after_settings old.header.items (file_of disks old)) journals
  pub settings : (past : HubPast) → HasGone old past
      → world_settings new.recorder.answers.runner.world
      ≡ (past_after old.recorder.answers.mode past
      (lines_after_settings old.header.items (file_of disks old))).settings
