-- The logs that a hub takes, those it refuses, and why. A choice of this hub.
use Rattle.std.specs.Prelude.{◌≡◌, ◌⊎◌, ◌<◌, ◌≤◌, ℕ, true, List, [], length, Option, None}
use Rattle.inst_log.specs.Layout.{recovered_lines}
use Rattle.inst_log.specs.Opening.{Begins, IsNewFile}
use Rattle.inst_log.specs.declared.error.LogError.TheVariants.{Disk, Memory, Full, Write, Told}
use Rattle.inst_log.specs.declared.error.LogError.TheVariants.{OtherSettings, NoLog}
use Rattle.inst_chain.specs.Chain.{has_wanted, kept_said}
use Rattle.inst_chain.specs.Verifying.{IsDamagedAfter}
use Rattle.inst_chain.specs.declared.digest.Digest.{Digest}
use Rattle.inst_logged.specs.declared.version.Version.{Version}
use Rattle.inst_logged.specs.declared.version.Version.TheVariants.{One, Two}
use Rattle.inst_logged.specs.declared.error.LoggedError.{LoggedError}
use Rattle.inst_logged.specs.declared.error.LoggedError.TheVariants.{Log, Read, Books, Damaged}
use Rattle.inst_logged.specs.declared.error.LoggedError.TheVariants.{OtherDigest, Changed}
use Rattle.inst_logged.specs.Answering.{told_count}
use Rattle.inst_logged.specs.Marking.{IsIntact}

-- The log begins with the header, or is a new file without a line.
abbrev pub OpensAs : List ℕ → List ℕ → Type 0
OpensAs header file = Begins header file ⊎ ((recovered_lines file ≡ []) × IsNewFile header file)

-- The log has the mark that was asked for, if one was. A log of version 1 has no marks.
abbrev pub HasWanted : Version → Option Digest → List ℕ → Type 0
HasWanted One wanted file = wanted ≡ None
HasWanted Two wanted file = has_wanted wanted (recovered_lines file) ≡ true

-- The hub takes the log: its marks are right, it begins with the header or is new, it has at least
-- the `told` lines, and the mark that was asked for.
pub record IsLogTaken (version : Version) (header : List ℕ) (told : Option ℕ)
    (wanted : Option Digest) (file : List ℕ) : Type 0 where
  pub intact : IsIntact version file
  pub opens : OpensAs header file
  pub enough : told_count told (kept_said header file) ≤ length (kept_said header file)
  pub digest : HasWanted version wanted file

-- The errors that refuse a log: it is damaged, has other settings or books that aren't valid, isn't
-- a log, has too few lines, or not the digest.
abbrev pub IsRefused : LoggedError → Type 0
IsRefused (Log OtherSettings) = Unit {0}
IsRefused (Log NoLog) = Unit {0}
IsRefused (Log Told) = Unit {0}
IsRefused (Log (Disk error)) = ⊥
IsRefused (Log Memory) = ⊥
IsRefused (Log Full) = ⊥
IsRefused (Log Write) = ⊥
IsRefused Read = ⊥
IsRefused Books = Unit {0}
IsRefused (Damaged right) = Unit {0}
IsRefused OtherDigest = Unit {0}
IsRefused Changed = ⊥

-- The cause of each refusal. `Books` refuses a log when its hub is found, not in a run. `Changed`
-- never occurs if the hub alone writes to the log.
abbrev pub IsCause : Version → List ℕ → Option ℕ → Option Digest → List ℕ → LoggedError → Type 0
IsCause version header told wanted file (Log OtherSettings) =
    (0 < length (recovered_lines file)) × (Begins header file → ⊥)
IsCause version header told wanted file (Log NoLog) =
    (recovered_lines file ≡ []) × (OpensAs header file → ⊥)
IsCause version header told wanted file (Log Told) =
    length (kept_said header file) < told_count told (kept_said header file)
IsCause version header told wanted file (Log (Disk error)) = Unit {0}
IsCause version header told wanted file (Log Memory) = Unit {0}
IsCause version header told wanted file (Log Full) = Unit {0}
IsCause version header told wanted file (Log Write) = Unit {0}
IsCause version header told wanted file Read = Unit {0}
IsCause version header told wanted file Books = ⊥
IsCause version header told wanted file (Damaged right) =
    (version ≡ Two) × IsDamagedAfter file right
IsCause version header told wanted file OtherDigest = HasWanted version wanted file → ⊥
IsCause version header told wanted file Changed = ⊥

-- The cause of the other errors of a log: `Disk`: the disk failed; `Full`: no space was left;
-- `Write`: the log was at rest.
abbrev pub HasLogFailed : Type 0 → Type 0 → Type 0 → LoggedError → Type 0
HasLogFailed failed no_room at_rest (Log (Disk error)) = failed
HasLogFailed failed no_room at_rest (Log Full) = no_room
HasLogFailed failed no_room at_rest (Log Write) = at_rest
HasLogFailed failed no_room at_rest (Log Memory) = Unit {0}
HasLogFailed failed no_room at_rest (Log Told) = Unit {0}
HasLogFailed failed no_room at_rest (Log OtherSettings) = Unit {0}
HasLogFailed failed no_room at_rest (Log NoLog) = Unit {0}
HasLogFailed failed no_room at_rest Read = Unit {0}
HasLogFailed failed no_room at_rest Books = Unit {0}
HasLogFailed failed no_room at_rest (Damaged right) = Unit {0}
HasLogFailed failed no_room at_rest OtherDigest = Unit {0}
HasLogFailed failed no_room at_rest Changed = Unit {0}

-- A log that is refused for its cause isn't one that the hub takes.
abbrev pub ARefusedLogIsNotTaken : Type 0
ARefusedLogIsNotTaken =
    (version : Version) (header : List ℕ) (told : Option ℕ) (wanted : Option Digest) (file : List ℕ)
    (error : LoggedError) →
    IsRefused error → IsCause version header told wanted file error →
    ¬ (IsLogTaken version header told wanted file)
