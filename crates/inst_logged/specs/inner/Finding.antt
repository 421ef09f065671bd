-- What a file was found to have before it is opened.
use Rattle.std.specs.Prelude.{◌≡◌, List, ℕ, [], Option, MatchOption, Result, IfErr, IfOk}
use Rattle.inst_log.specs.Layout.{recovered_lines}
use Rattle.inst_log.specs.Pieces.{IsExtent}
use Rattle.inst_chain.specs.Verifying.{SealedBy}
use Rattle.inst_chain.specs.declared.digest.Digest.{Digest}
use Rattle.inst_chain.specs.declared.marker.Marker.{Marker}
use Rattle.sqlite_disk.specs.declared.Disk.{Ghosts}
use Rattle.inst_logged.specs.Refused.{HasWanted, IsCause}
use Rattle.inst_log.specs.Disks.{HasKeptFaith, IsOnlyRead}
use Rattle.inst_logged.specs.inner.Failing.{FailsBy}
use Rattle.inst_logged.specs.declared.error.LoggedError.{LoggedError}
use Rattle.inst_logged.specs.declared.version.Version.{Version}
use Rattle.inst_logged.specs.declared.version.Version.TheVariants.{One, Two}
use Rattle.inst_logged.specs.declared.hub.examining.LogFindings.{LogFindings}

-- A log with marks has no line, or its marks and end are right. One without marks isn't verified.
abbrev pub IsVerified : Version → List ℕ → Option Marker → Type 0
IsVerified One file found = Unit {0}
IsVerified Two file found =
    MatchOption found (recovered_lines file ≡ []) (λ marker. SealedBy file marker)

-- The file has this extent, right marks, and the mark that was asked for.
pub record FindsInFile (version : Version) (wanted : Option Digest) (file : List ℕ)
    (found : LogFindings) : Type 0 where
  pub extent : IsExtent file found.extent
  pub verified : IsVerified version file found.marker
  pub digest : HasWanted version wanted file

-- A log was only read, and this was found. At an error the disk failed, or the log isn't taken: its
-- marks are wrong, or it hasn't the mark that was asked for.
pub record IsExamined {D : Type 0} (disks : Ghosts D) (version : Version) (wanted : Option Digest)
    (old new : D) (result : Result LogFindings LoggedError) : Type 0 where
  pub found : IfOk result (λ found. HasKeptFaith disks new →
      FindsInFile version wanted (disks.seen old) found)
  pub cause : IfErr result (λ error. HasKeptFaith disks new → (header : List ℕ) (told : Option ℕ) →
      IsCause version header told wanted (disks.seen old) error)
  pub failure : FailsBy disks old new ⊥ ⊥ result
  pub read : IsOnlyRead disks old new
