-- The causes of errors that don't refuse a log, and the faults that its disk counts.
use Rattle.std.specs.Prelude.{◌≡◌, ◌≢◌, Result, MatchResult, IfErr, IsTrue}
use Rattle.sqlite_disk.specs.Disk.{MoreFaults}
use Rattle.sqlite_disk.specs.declared.Disk.{Ghosts}
use Rattle.inst_logged.specs.Refused.{HasLogFailed, IsRefused}
use Rattle.inst_logged.specs.declared.error.LoggedError.{LoggedError}
use Rattle.inst_logged.specs.declared.error.LoggedError.TheVariants.{Changed}

-- The log failed only for these causes, and nobody changed it.
abbrev pub FailsAtLog : Type 0 → Type 0 → Type 0 → LoggedError → Type 0
FailsAtLog failed no_room at_rest error =
    (error ≢ Changed) × HasLogFailed failed no_room at_rest error

-- A call that succeeds counts no fault of the disk; if the disk has kept faith, each of its errors
-- is counted.
abbrev pub FailsBy : {D T : Type 0} → Ghosts D → D → D → Type 0 → Type 0 → Result T LoggedError →
    Type 0
FailsBy disks old new no_room at_rest result =
    MatchResult result (λ _. disks.faults new ≡ disks.faults old)
    (λ error. IsTrue (disks.is_clean new) →
    FailsAtLog (MoreFaults (disks.faults old) (disks.faults new)) no_room at_rest error)

-- The same, and the error doesn't refuse the log.
pub record FailsUnrefused {D T : Type 0} (disks : Ghosts D) (old new : D) (no_room at_rest : Type 0)
    (result : Result T LoggedError) : Type 0 where
  pub unrefused : IfErr result (λ error. ¬ IsRefused error)
  pub failure : FailsBy disks old new no_room at_rest result
