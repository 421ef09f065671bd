-- The end of a drill, and what it leaves of the file for its script.
use Rattle.std.specs.Prelude.{◌≡◌, ◌≢◌, ◌⊎◌, ℕ, List, [], Option, Some, None, Result, OnOk, IfErr}
use Rattle.sqlite_disk.specs.declared.Disk.{Ghosts}
use Rattle.inst_drill.specs.Drilled.{HasDrilledAll}
use Rattle.inst_drill.specs.Plan.{MayDrill}
use Rattle.inst_drill.specs.declared.explaining.DrillResult.{DrillResult}
use Rattle.inst_log.specs.Disks.{HasKeptFaith, HasSameFile}
use Rattle.inst_program.specs.Files.{Files, Stay, change_on}
use Rattle.inst_program.specs.Script.{CannotTakeTheScript, IsWritten, SparesTheScript, script_of}
use Rattle.inst_program.specs.declared.drilling.DrillTask.{DrillTask}
use Rattle.inst_program.specs.declared.exit_reason.ExitReason.{ExitReason}
use Rattle.inst_program.specs.inner.ExitReason.{status_of_ending}

-- No hub of these settings can do the drill.
abbrev pub CannotDrill : DrillTask → Type 0
CannotDrill asked = ¬ (MayDrill asked.settings asked.transfers asked.openings)

-- A drill without a script ends with status 2 only if no hub can do it; then nothing was written.
abbrev pub IsDrillStopped : DrillTask → Type 0 → ExitReason → Type 0
IsDrillStopped asked unwritten e = status_of_ending e ≡ 2 → unwritten × CannotDrill asked

-- A drill with a script on this disk: it is done and the script written, or it is refused and the
-- disk unchanged, or it failed.
pub record IsScripted {D A : Type 0} (disks : Ghosts D) (asked : DrillTask)
    (held held' : Option (List ℕ)) (unwritten : Type 0) (old new : D)
    (outcome : Result A ExitReason) : Type 0 where
  pub done : OnOk outcome ((left : DrillResult)
      × HasDrilledAll asked.settings asked.openings held held' left
      × (HasKeptFaith disks new →
      IsWritten (script_of asked.settings left.steps.items) (change_on disks old new)))
  pub refused : IfErr outcome (λ e. status_of_ending e ≡ 2 → unwritten × HasSameFile disks old new
      × (CannotDrill asked ⊎ (HasKeptFaith disks new → disks.seen old ≢ [])))
  pub spared : HasKeptFaith disks new → disks.seen old ≢ [] → HasSameFile disks old new

-- The script can't be written to the named file.
abbrev pub IsWithoutAFile : Option (List ℕ) → Files → Files → Type 0
IsWithoutAFile None old new = ⊥
IsWithoutAFile (Some name) old new = CannotTakeTheScript name old new

-- The drill isn't done, and the program ends for this reason.
pub record IsUndrilled (asked : DrillTask) (script : Option (List ℕ)) (unwritten : Type 0)
    (old new : Files) (e : ExitReason) : Type 0 where
  pub refused : status_of_ending e ≡ 2 →
      unwritten × Stay old new × (CannotDrill asked ⊎ IsWithoutAFile script old new)
  pub failed : status_of_ending e ≡ 3 → SparesTheScript script old new
