-- Why `next` is refused, for each part of the task.
use Rattle.std.specs.Prelude.{◌≡◌, ◌⊎◌, ◌<◌, ℕ, List, length, Option, None, Some, Result}
use Rattle.std.specs.Prelude.{MatchResult, IfErr, IfOk, IsTrue, OnErr}
use Rattle.sqlite_disk.specs.declared.Disk.{Ghosts}
use Rattle.inst_settings.specs.Settings.{HubSettings}
use Rattle.inst_lines.specs.declared.mode.Mode.{Mode}
use Rattle.inst_world.specs.HasRun.{world_settings}
use Rattle.inst_world.specs.NextOpening.{AreClosedBooks}
use Rattle.inst_log.specs.Layout.{recovered_lines}
use Rattle.inst_log.specs.Opening.{Begins}
use Rattle.inst_chain.specs.declared.digest.Digest.{Digest}
use Rattle.inst_logged.specs.LogHeader.{beginning_with}
use Rattle.inst_logged.specs.Header.{AreFirstLines}
use Rattle.inst_logged.specs.Refused.{IsLogTaken}
use Rattle.inst_log.specs.Disks.{HasKeptFaith}
use Rattle.inst_logged.specs.declared.header.Origin.{Origin}
use Rattle.inst_logged.specs.declared.log_header.LogHeader.{LogHeader}
use Rattle.inst_logged.specs.declared.version.Version.{Version}
use Rattle.inst_logged.specs.declared.version.Version.TheVariants.{Two}
use Rattle.inst_program.specs.Files.{change_on}
use Rattle.inst_program.specs.Keeping.{AsksFor, CarriesBooks, IsGoodToClose}
use Rattle.inst_program.specs.Keeping.{IsSafe}
use Rattle.inst_program.specs.inner.ExitReason.{status_of_ending}
use Rattle.inst_program.specs.inner.Changing.{hub_closed}
use Rattle.inst_program.specs.declared.changing.Closed.{Closed}
use Rattle.inst_program.specs.declared.exit_reason.ExitReason.{ExitReason}

-- Why the hub of this log isn't closed: another program may have it open, or it can't be closed.
abbrev pub IsLogUnclosed : Type 0 → Type 0 → Option Digest → List ℕ → Type 0
IsLogUnclosed in_use faith wanted file = in_use ⊎ (faith → ¬ (IsGoodToClose wanted file))

-- Why the log isn't begun with these lines: another program may have it open, or it is another log.
abbrev pub IsLogUnbegun : Type 0 → Type 0 → List ℕ → List ℕ → Type 0
IsLogUnbegun in_use faith first file = in_use ⊎ (faith → ¬ (IsLogTaken Two first None None file))

-- The contents of a log's first line were read, and the log isn't refused for them.
abbrev pub ReadsBeginning : List ℕ → Result (Option LogHeader) ExitReason → Type 0
ReadsBeginning file result =
    (version : Version) (mode : Mode) (s : HubSettings) (first : List ℕ) →
    AreFirstLines version mode s first → Begins first file
    → MatchResult result (λ found. (origin : Origin)
    × (found ≡ Some (beginning_with mode s origin))) (λ ending. status_of_ending ending ≡ 2 → ⊥)

-- The file has a line, and if it begins as a hub's log does, the log has this mode and these
-- settings.
pub record IsReadAsLog (mode : Mode) (s : HubSettings) (file : List ℕ) : Type 0 where
  pub there : 0 < length (recovered_lines file)
  pub settings : (version : Version) (m : Mode) (t : HubSettings) (first : List ℕ) →
      AreFirstLines version m t first → Begins first file → (m ≡ mode) × (t ≡ s)

-- The hub of the log on a disk was closed; or it wasn't, and the log is safe. `books`: its journals
-- are closed books. `refused`: the cause of exit status 2.
pub record IsHubClosed {D : Type 0} (disks : Ghosts D) (wanted : Option Digest) (old new : D)
    (result : Result Closed ExitReason) : Type 0 where
  pub ok : IfOk result (λ closed. HasKeptFaith disks new → (digest : Option (List ℕ)) →
      AsksFor digest wanted
      → CarriesBooks digest ((d : D) →
      IsTrue (disks.is_mixing d)) (hub_closed closed) (change_on disks old new))
  pub books : IfOk result (λ closed.
      AreClosedBooks (world_settings closed.runner.world) closed.journals.items)
  pub err : OnErr result (IsSafe ((d : D) →
      IsTrue (disks.is_mixing d)) (HasKeptFaith disks new) (change_on disks old new))
  pub refused : IfErr result (λ ending. status_of_ending ending ≡ 2 →
      IsLogUnclosed ⊥ (HasKeptFaith disks new) wanted (disks.seen old))
