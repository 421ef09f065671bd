-- The settings with which a file opens, and what an opening may leave of it. Settings are a batch:
-- the first lines of each log that opens with them. A choice of this hub.
use Rattle.std.specs.Prelude.{◌≡◌, ◌⊎◌, ◌≤◌, ◌<◌, ℕ, List, [], ◌∷◌, ◌++◌, length, take, drop}
use Rattle.std.specs.Prelude.{◌+◌, IsTrue}
use Rattle.sqlite_disk.specs.declared.Disk.{Ghosts}
use Rattle.inst_log.specs.Disks.{HasKeptFaith}
use Rattle.inst_log.specs.Layout.{recovered_lines, blocks, EndsWell}
use Rattle.inst_log.specs.declared.error.LogError.{LogError}
use Rattle.inst_log.specs.declared.error.LogError.TheVariants.{Disk, Memory, Full, Write, Told}
use Rattle.inst_log.specs.declared.error.LogError.TheVariants.{OtherSettings, NoLog}

-- The lines of a log after its settings.
abbrev pub lines_after_settings : List ℕ → List ℕ → List (List ℕ)
lines_after_settings settings file = drop (length (recovered_lines settings)) (recovered_lines file)

-- The file's first lines are the settings.
abbrev pub Begins : List ℕ → List ℕ → Type 0
Begins settings file =
    recovered_lines file ≡ recovered_lines settings ++ lines_after_settings settings file

-- A new file, or what a crash leaves of making a log with these settings: at most one byte, or a
-- byte 0 and no more bytes than the settings have, or all of the settings but their first byte.
abbrev pub IsNewFile : List ℕ → List ℕ → Type 0
IsNewFile settings file =
    (length file ≤ 1)
    ⊎ (((take 1 file ≡ 0 ∷ []) × (length file ≤ length settings)) ⊎ (drop 1 file ≡ drop 1 settings))

-- A log of these settings, or a new file.
abbrev pub OpensLog : List ℕ → List ℕ → Type 0
OpensLog settings file = Begins settings file ⊎ IsNewFile settings file

-- The lines are unchanged, or a file without lines has got the settings.
abbrev pub IsSameOrBegun : List ℕ → List ℕ → List ℕ → Type 0
IsSameOrBegun settings old new =
    (recovered_lines new ≡ recovered_lines old)
    ⊎ ((recovered_lines old ≡ []) × (recovered_lines new ≡ recovered_lines settings))

-- The lines after the settings are unchanged, and the file opens with the settings if it did
-- before.
pub record OpensAlike (settings old new : List ℕ) : Type 0 where
  pub lines : lines_after_settings settings new ≡ lines_after_settings settings old
  pub opens : OpensLog settings old → OpensLog settings new

-- During an opening a crash leaves the same lines, in a file that can be opened again. If the disk
-- leaves each byte of a cut-off write old or new, the byte 0 follows the lines if it did before.
pub record SparesLines {D : Type 0} (disks : Ghosts D) (settings : List ℕ) (old new : D) : Type 0
  where
    pub alike : HasKeptFaith disks new → (c : List ℕ) → disks.may_leave new c →
        OpensAlike settings (disks.seen old) c
    pub stands : HasKeptFaith disks new → (c : List ℕ) → disks.may_leave new c →
        IsSameOrBegun settings (disks.seen old) c
    pub shut : ((d : D) → IsTrue (disks.is_mixing d)) → HasKeptFaith disks new
        → EndsWell (disks.seen old) → (c : List ℕ) → disks.may_leave new c → EndsWell c
    pub clean : HasKeptFaith disks new → HasKeptFaith disks old

-- The text is the lines of a log that opens with these settings, each with its newline, the
-- settings first.
pub record IsLogText {D : Type 0} (disks : Ghosts D) (settings : List ℕ) (old new : D)
    (text : List ℕ) : Type 0 where
  pub opens : HasKeptFaith disks new → OpensLog settings (disks.seen old)
  pub lines : HasKeptFaith disks new → text
      ≡ blocks (recovered_lines settings ++ lines_after_settings settings (disks.seen old))
  pub front : length settings ≤ length text + 1

-- The cause of each error of an opening. At `OtherSettings` and `NoLog` the file is unchanged, and
-- it doesn't open with these settings. `Memory` has no cause here.
abbrev pub Unopened : List ℕ → List ℕ → Type 0 → Type 0 → Type 0 → LogError → Type 0
Unopened settings file clean untouched failed OtherSettings =
    untouched × (clean → (0 < length (recovered_lines file)) × (Begins settings file → ⊥))
Unopened settings file clean untouched failed NoLog =
    untouched × (clean → (recovered_lines file ≡ []) × (IsNewFile settings file → ⊥))
Unopened settings file clean untouched failed (Disk error) = failed
Unopened settings file clean untouched failed Memory = Unit {0}
Unopened settings file clean untouched failed Full = ⊥
Unopened settings file clean untouched failed Write = ⊥
Unopened settings file clean untouched failed Told = ⊥

-- The first line, and `behind` lines after it.
pub record BeginsBy (first : List ℕ) (behind : ℕ) (lines : List (List ℕ)) : Type 0 where
  pub rest : List (List ℕ)
  pub split : lines ≡ first ∷ rest
  pub count : behind ≡ length rest

-- The cause of each error of reading a log.
abbrev pub Unread : List ℕ → Type 0 → Type 0 → LogError → Type 0
Unread file clean failed (Disk error) = clean → failed
Unread file clean failed Memory = Unit {0}
Unread file clean failed NoLog = clean → recovered_lines file ≡ []
Unread file clean failed OtherSettings = ⊥
Unread file clean failed Full = ⊥
Unread file clean failed Write = ⊥
Unread file clean failed Told = ⊥
