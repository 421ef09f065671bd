-- What opening, running and closing a hub with a log leave. Claims about a log hold if its disk has
-- kept faith: none of its wrong answers was taken as true. A choice of this hub.
use Rattle.std.specs.Prelude.{◌≡◌, ◌⊎◌, ◌≤◌, ◌-◌, ◌^◌, ◌++◌, ℕ, List, length, Option, None, IsTrue}
use Rattle.std.specs.Io.KnownBytes.{Consumes}
use Rattle.sqlite_disk.specs.Disk.{Only, MoreFaults}
use Rattle.sqlite_disk.specs.declared.Disk.{Ghosts}
use Rattle.inst_lines.specs.Answering.{HubPast, IsRunnerAt}
use Rattle.inst_log.specs.Disks.{HasKeptFaith, HasSameFile}
use Rattle.inst_log.specs.Layout.{recovered_lines, blocks}
use Rattle.inst_log.specs.Log.{IsSettled}
use Rattle.inst_log.specs.Opening.{lines_after_settings, Begins, OpensLog, OpensAlike}
use Rattle.inst_log.specs.Opening.{IsSameOrBegun}
use Rattle.inst_chain.specs.declared.digest.Digest.{Digest}
use Rattle.inst_logged.specs.Answering.{past_after}
use Rattle.inst_logged.specs.Logged.{HasLogged, IsUnbegun, SurvivesACrash}
use Rattle.inst_logged.specs.Marking.{IsIntact}
use Rattle.inst_logged.specs.Refused.{IsCause, IsRefused, IsLogTaken, HasLogFailed}
use Rattle.inst_logged.specs.Streams.{Streams}
use Rattle.inst_logged.specs.declared.error.LoggedError.{LoggedError}
use Rattle.inst_logged.specs.declared.hub.LoggedHub.{LoggedHub}

-- The disk of the hub's log.
abbrev pub disk_of : {D : Type 0} → LoggedHub D → D
disk_of hub = hub.recorder.log.disk

-- The file on that disk.
abbrev pub file_of : {D : Type 0} → Ghosts D → LoggedHub D → List ℕ
file_of disks hub = disks.seen (disk_of hub)

-- The hub has this past.
abbrev pub HasGone : {D : Type 0} → LoggedHub D → HubPast → Type 0
HasGone hub past = IsRunnerAt hub.recorder.answers.mode past hub.recorder.answers.runner

-- The hub has answered nothing, and reads of its disk return what is on it, as after a restart.
pub record IsReadyHub {D : Type 0} (disks : Ghosts D) (hub : LoggedHub D) : Type 0 where
  pub unbegun : IsUnbegun hub.version hub.header.items hub.marker hub.intake
  pub usable : IsTrue (disks.is_usable (disk_of hub))
  pub known : HasKeptFaith disks (disk_of hub) →
      Only (file_of disks hub) (disks.may_leave (disk_of hub))

-- The hub takes its log.
abbrev pub Takes : {D : Type 0} → Ghosts D → LoggedHub D → Option ℕ → Option Digest → Type 0
Takes disks hub told wanted =
    IsLogTaken hub.version hub.header.items told wanted (file_of disks hub)

-- The hub took the log and answered the whole input. All is synced, and the log's marks are right.
pub record RunsThrough {D : Type 0} (disks : Ghosts D) (told : Option ℕ) (wanted : Option Digest)
    (old new : LoggedHub D) (t : Streams) : Type 0 where
  pub taken : Takes disks old told wanted
  pub logged : (past : HubPast) → HasGone old past
      → HasLogged old.recorder.answers.mode past old.header.items told (file_of disks old)
      (file_of disks new) t.left t.left' t.held t.held'
  pub settled : IsSettled disks.seen disks.may_leave new.recorder.log
  pub intact : IsIntact old.version (file_of disks new)

-- What a crash may leave: the lines from before and a prefix of those read. The log begins with its
-- first lines and opens if it did before. If the disk leaves each byte of a cut-off write old or
-- new, the log isn't damaged unless it was before.
pub record SurvivesEachCrash {D : Type 0} (disks : Ghosts D) (told : Option ℕ)
    (old new : LoggedHub D)
    (t : Streams) : Type 0 where
  pub survives : (past : HubPast) → HasGone old past
      → SurvivesACrash old.recorder.answers.mode past old.header.items told (file_of disks old)
      (disks.may_leave (disk_of new)) t.left t.left' t.held t.held'
  pub begins : Begins old.header.items (file_of disks old) → (c : List ℕ) →
      disks.may_leave (disk_of new) c → Begins old.header.items c
  pub opens : OpensLog old.header.items (file_of disks old) → (c : List ℕ) →
      disks.may_leave (disk_of new) c → OpensLog old.header.items c
  pub intact : ((d : D) → IsTrue (disks.is_mixing d)) → IsIntact old.version (file_of disks old)
      → (c : List ℕ) → disks.may_leave (disk_of new) c → IsIntact old.version c

-- What a crash may leave of an opening: the same lines, or if there were none, the first ones. The
-- log isn't damaged unless it was before, on such a disk.
pub record StaysAlike {D : Type 0} (disks : Ghosts D) (old new : LoggedHub D) : Type 0 where
  pub alike : (c : List ℕ) → disks.may_leave (disk_of new) c →
      OpensAlike old.header.items (file_of disks old) c
  pub stands : (c : List ℕ) → disks.may_leave (disk_of new) c →
      IsSameOrBegun old.header.items (file_of disks old) c
  pub intact : ((d : D) → IsTrue (disks.is_mixing d)) → IsIntact old.version (file_of disks old)
      → (c : List ℕ) → disks.may_leave (disk_of new) c → IsIntact old.version c

-- No space is left for a run: the log's lines have 2^62 bytes or more, or 2^64 - 1 bytes or more
-- were read.
abbrev pub HasNoRoom : {D : Type 0} → Ghosts D → LoggedHub D → Option (List ℕ) → Option (List ℕ) →
    Type 0
HasNoRoom disks hub left left' = (2 ^ 62 ≤ length (blocks (recovered_lines (file_of disks hub))))
    ⊎ ((bytes : List ℕ) × Consumes left left' bytes × (2 ^ 64 - 1 ≤ length bytes))

-- The call ended with this error. If the log is refused, nothing was done; else nothing was done,
-- or the hub takes the log. `Disk` and `Full` have their causes; after `Write` the log is synced or
-- unchanged. `still`: nothing was read or written.
pub record StopsBy {D : Type 0} (disks : Ghosts D) (told : Option ℕ) (wanted : Option Digest)
    (old new : LoggedHub D) (still no_room : Type 0)
    (error : LoggedError) : Type 0 where
  pub refused : IsRefused error → still × HasSameFile disks (disk_of old) (disk_of new)
  pub begun : HasKeptFaith disks (disk_of new) →
      (still × HasSameFile disks (disk_of old) (disk_of new)) ⊎ Takes disks old told wanted
  pub cause : HasKeptFaith disks (disk_of new) →
      IsCause old.version old.header.items told wanted (file_of disks old) error
  pub failure : HasKeptFaith disks (disk_of new) →
      HasLogFailed (MoreFaults (disks.faults (disk_of old)) (disks.faults (disk_of new))) no_room
      (IsSettled disks.seen disks.may_leave new.recorder.log
      ⊎ HasSameFile disks (disk_of old) (disk_of new)) error

-- The hub took the log, whose lines stay the same, and has answered them.
pub record OpensLogAgain {D : Type 0} (disks : Ghosts D) (wanted : Option Digest)
    (old new : LoggedHub D) : Type 0 where
  pub taken : Takes disks old None wanted
  pub state : (past : HubPast) → HasGone old past
      → IsRunnerAt old.recorder.answers.mode
      (past_after old.recorder.answers.mode past
      (lines_after_settings old.header.items (file_of disks old)))
      new.recorder.answers.runner
  pub settled : IsSettled disks.seen disks.may_leave new.recorder.log
  pub lines : recovered_lines (file_of disks new)
      ≡ recovered_lines old.header.items
      ++ lines_after_settings old.header.items (file_of disks old)
  pub intact : IsIntact old.version (file_of disks new)
