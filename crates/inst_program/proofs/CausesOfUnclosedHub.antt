-- Why the hub of a log isn't closed.
use Rattle.std.proofs.Common.{◌≡◌, ◌<◌, ◌∙◌, inl, inr, ℕ, [], List, length, Option, None, Some, Result, Ok, Err, IsTrue, MatchResult, sym, ap, subst}
use Rattle.sqlite_disk.specs.declared.Disk.{Ghosts}
use Rattle.inst_settings.specs.Settings.{HubSettings}
use Rattle.inst_lines.specs.declared.mode.Mode.{Mode}
use Rattle.inst_log.specs.Layout.{recovered_lines}
use Rattle.inst_log.specs.Opening.{Begins}
use Rattle.inst_chain.specs.declared.digest.Digest.{Digest}
use Rattle.inst_logged.specs.LogHeader.{beginning_with}
use Rattle.inst_logged.specs.Finding.{FindsLog}
use Rattle.inst_logged.specs.Header.{AreFirstLines}
use Rattle.inst_logged.specs.Refused.{IsCause, IsRefused, IsLogTaken}
use Rattle.inst_log.specs.Disks.{HasKeptFaith}
use Rattle.inst_logged.specs.declared.header.Origin.{Origin}
use Rattle.inst_logged.specs.declared.log_header.LogHeader.{LogHeader}
use Rattle.inst_logged.specs.declared.error.LoggedError.{LoggedError}
use Rattle.inst_logged.specs.declared.hub.new_hub.NewHub.{NewHub}
use Rattle.inst_logged.specs.declared.version.Version.{Version}
use Rattle.inst_logged.proofs.BooksBehindFirstLine.{log_has_a_line}
use Rattle.inst_logged.proofs.CausesOfRefusal.{not_taken}
use Rattle.inst_program.specs.Files.{Files}
use Rattle.inst_program.specs.Keeping.{IsGoodToClose}
use Rattle.inst_program.specs.inner.Carrying.{IsReadAsLog, IsLogUnbegun, IsLogUnclosed, ReadsBeginning}
use Rattle.inst_program.specs.inner.ExitReason.{status_of_ending}
use Rattle.inst_program.specs.inner.Visiting.{IsVisitedAs}
use Rattle.inst_program.specs.declared.exit_reason.ExitReason.{ExitReason}
use Rattle.inst_program.proofs.LogOnReturnedDisk.{unrefused_at}

-- it isn't there
pub none_to_close : (wanted : Option Digest) (file now : List ℕ) → now ≡ file → now ≡ [] → IsGoodToClose wanted file → ⊥
none_to_close wanted file now same none good =
    let empty : recovered_lines file ≡ [] = ap recovered_lines (sym same ∙ none) in
    log_has_a_line good.version good.mode good.settings good.first file good.lines good.begins empty

-- its first line isn't that of a log
pub unread_to_close : (wanted : Option Digest) (file : List ℕ) (r : Result (Option LogHeader) ExitReason) → ReadsBeginning file r → r ≡ Ok None → IsGoodToClose wanted file → ⊥
unread_to_close wanted file r reads none good =
    let (origin, is) = subst (λ (q : Result (Option LogHeader) ExitReason). MatchResult q (λ found. (origin : Origin) × (found ≡ Some (beginning_with good.mode good.settings origin))) (λ ending. status_of_ending ending ≡ 2 → ⊥)) none
    (reads good.version good.mode good.settings good.first good.lines good.begins) in
    cc is

pub refused_to_close : (wanted : Option Digest) (file : List ℕ) (r : Result (Option LogHeader) ExitReason) (e : ExitReason) → ReadsBeginning file r → r ≡ Err e → status_of_ending e ≡ 2 → IsGoodToClose wanted file → ⊥
refused_to_close wanted file r e reads failed two good =
    subst (λ (q : Result (Option LogHeader) ExitReason). MatchResult q (λ found. (origin : Origin) × (found ≡ Some (beginning_with good.mode good.settings origin))) (λ ending. status_of_ending ending ≡ 2 → ⊥)) failed
    (reads good.version good.mode good.settings good.first good.lines good.begins) two

-- what was read of it
read_so : (file : List ℕ) (r : Result (Option LogHeader) ExitReason) (b : LogHeader) → ReadsBeginning file r → r ≡ Ok (Some b)
    → (version : Version) (m : Mode) (t : HubSettings) (first : List ℕ) → AreFirstLines version m t first → Begins first file → (m ≡ b.mode) × (t ≡ b.settings)
read_so file r b reads is version m t first lines begins =
    let (origin, same) = subst (λ (q : Result (Option LogHeader) ExitReason). MatchResult q (λ found. (origin : Origin) × (found ≡ Some (beginning_with m t origin))) (λ ending. status_of_ending ending ≡ 2 → ⊥)) is
    (reads version m t first lines begins) in
    let both : b ≡ beginning_with m t origin = cc same in
    (ap (λ (x : LogHeader). x.mode) (sym both), ap (λ (x : LogHeader). x.settings) (sym both))

pub is_read : (file : List ℕ) (r : Result (Option LogHeader) ExitReason) (b : LogHeader) → 0 < length (recovered_lines file) → ReadsBeginning file r → r ≡ Ok (Some b) → IsReadAsLog b.mode b.settings file
is_read file r b there reads is = record { there = there; settings = read_so file r b reads is }

module _ (mode : Mode) (s : HubSettings) (wanted : Option Digest) (file : List ℕ) (read : IsReadAsLog mode s file) where
  lines_so : (good : IsGoodToClose wanted file) → AreFirstLines good.version mode s good.first
  lines_so good =
      let same = read.settings good.version good.mode good.settings good.first good.lines good.begins in
      subst (λ (m : Mode). AreFirstLines good.version m s good.first) same.0 (subst (λ (t : HubSettings). AreFirstLines good.version good.mode t good.first) same.1 good.lines)

  -- no hub of it was found
  pub unfound_to_close : (r : Result NewHub LoggedError) (e : LoggedError) → FindsLog mode s file r → r ≡ Err e → IsRefused e → IsGoodToClose wanted file → ⊥
  unfound_to_close r e finds failed refused good = unrefused_at _ r e (finds good.version good.first (lines_so good) good.begins) failed refused

  -- its hub refused it
  pub untaken_to_close : (version : Version) (first : List ℕ) → ((v : Version) (lines : List ℕ) → AreFirstLines v mode s lines → Begins lines file → (version ≡ v) × (first ≡ lines))
      → (e : LoggedError) → IsRefused e → IsCause version first None wanted file e → IsGoodToClose wanted file → ⊥
  untaken_to_close version first finds e refused cause good =
      let found = finds good.version good.first (lines_so good) good.begins in
      not_taken version first None wanted file e refused cause
      (subst (λ (v : Version). IsLogTaken v first None wanted file) (sym found.0) (subst (λ (lines : List ℕ). IsLogTaken good.version lines None wanted file) (sym found.1) good.taken))

-- the file on the disk is that of the name
module _ {D : Type 0} (disks : Ghosts D) (old new : Files) (name : List ℕ) (disk disk' : D) (v : IsVisitedAs disks old new name disk disk') where
  pub unclosed_in : (in_use : Type 0) (wanted : Option Digest) → IsLogUnclosed ⊥ (HasKeptFaith disks disk') wanted (disks.seen disk) → IsLogUnclosed in_use (IsTrue new.is_clean) wanted (old.bytes name)
  unclosed_in in_use wanted (inl never) = absurd never
  unclosed_in in_use wanted (inr bad) = inr (λ is good. bad (v.faith is) (subst (IsGoodToClose wanted) (v.change is).was good))

  pub unbegun_in : (in_use : Type 0) (first : List ℕ) → IsLogUnbegun ⊥ (HasKeptFaith disks disk') first (disks.seen disk) → IsLogUnbegun in_use (IsTrue new.is_clean) first (old.bytes name)
  unbegun_in in_use first (inl never) = absurd never
  unbegun_in in_use first (inr other) = inr (λ is taken. other (v.faith is) (subst (IsLogTaken _ first None None) (v.change is).was taken))

-- it was only read before
pub unclosed_before : (faith : Type 0) (wanted : Option Digest) (file mid : List ℕ) → mid ≡ file → IsLogUnclosed ⊥ faith wanted mid → IsLogUnclosed ⊥ faith wanted file
unclosed_before faith wanted file mid same is = subst (IsLogUnclosed ⊥ faith wanted) same is
