-- A file that is read in pieces, and where its lines end. A choice of this hub.
use Rattle.std.specs.Prelude.{◌≡◌, ◌≢◌, ◌⊎◌, ◌<◌, ◌≤◌, ◌+◌, ◌&&◌, ◌==◌, not, nat_lt, ℕ, Bool, false}
use Rattle.std.specs.Prelude.{List, [], ◌∷◌, ◌++◌, length, take, drop, slice_index, MatchBool}
use Rattle.sqlite_disk.specs.declared.Disk.{Ghosts}
use Rattle.inst_log.specs.Disks.{HasKeptFaith}
use Rattle.inst_log.specs.Layout.{gate, recovered_lines, blocks, AreWholeLines}
use Rattle.inst_log.specs.Opening.{Begins, IsNewFile}
use Rattle.inst_log.specs.declared.line_cutter.LineCutter.{LineCutter}
use Rattle.inst_log.specs.declared.file_lines.FileLines.{FileLines}
use Rattle.inst_log.specs.declared.extent.Extent.{Extent}
use Rattle.inst_log.specs.declared.start.Start.{Start}
use Rattle.inst_log.specs.declared.start.Start.TheVariants as start

-- No line can begin with these bytes, whatever follows.
abbrev pub cannot_begin : List ℕ → Bool
cannot_begin [] = false
cannot_begin (b ∷ rest) = not (b == gate)

-- The first byte is 0.
abbrev pub is_shut : List ℕ → Bool
is_shut [] = false
is_shut (b ∷ rest) = b == 0

-- No line can begin with the bytes that the cutter holds.
abbrev pub stops : LineCutter → Bool
stops cutter = cannot_begin cutter.held.items

-- The file is the lines that were cut off, the bytes that are held, which hold no whole line, and
-- the bytes that haven't arrived.
pub record HasCut (file : List ℕ) (cutter : LineCutter) (done : List (List ℕ)) : Type 0 where
  pub are : recovered_lines (blocks done) ≡ done
  pub split : file ≡ blocks done ++ (cutter.held.items ++ drop cutter.at file)
  pub within : cutter.at ≤ length file
  pub held : recovered_lines cutter.held.items ≡ []

-- The file was read up to the cutter's position, and these are its lines so far.
pub record IsReading (file : List ℕ) (lines : FileLines) (done : List (List ℕ)) : Type 0 where
  pub cut : HasCut file lines.cutter done
  pub len : lines.len ≡ length file

-- The file has bytes that weren't read, and a further line is possible.
abbrev pub has_more : FileLines → Bool
has_more lines = nat_lt lines.cutter.at lines.len && not (stops lines.cutter)

-- A further piece of the disk's file was read, and `lines` are the lines that end in it.
pub record ReadsOn {D : Type 0} (disks : Ghosts D) (old new : D) (before after : FileLines)
    (lines : List ℕ) : Type 0 where
  pub whole : AreWholeLines lines
  pub reading : HasKeptFaith disks new → (done : List (List ℕ))
      → IsReading (disks.seen old) before done
      → IsReading (disks.seen old) after (done ++ recovered_lines lines)
  pub on : before.cutter.at < after.cutter.at
  pub within : after.cutter.at ≤ after.len
  pub len : after.len ≡ before.len

-- The extent of the file: its length and where its lines end. `is_closed` says if a closed byte
-- follows them; otherwise the file ends there, or a line without a newline begins.
pub record IsExtent (file : List ℕ) (extent : Extent) : Type 0 where
  pub len : extent.len ≡ length file
  pub end : extent.end ≡ length (blocks (recovered_lines file))
  pub closed : MatchBool extent.is_closed ((extent.end < length file)
      × (slice_index file extent.end ≢ gate))
      ((length file ≤ extent.end) ⊎ (slice_index file extent.end ≡ gate))

-- The first bytes of the file, one more than the settings have.
abbrev pub IsFrontFor : List ℕ → List ℕ → List ℕ → Type 0
IsFrontFor settings front file = front ≡ take (length settings + 1) file

-- A log of these settings, or a new file without a line; `is_blank` says if its first byte is 0.
abbrev pub Starts : List ℕ → List ℕ → Start → Type 0
Starts settings file start.Log = Begins settings file
Starts settings file (start.New is_blank) =
    IsNewFile settings file × (recovered_lines file ≡ [])
    × MatchBool is_blank (take 1 file ≡ 0 ∷ []) (take 1 file ≢ 0 ∷ [])

-- A file of this extent is a log of these settings or a new file.
pub record IsFoundAs (settings file : List ℕ) (extent : Extent) (start : Start) : Type 0 where
  pub goes : IsExtent file extent
  pub starts : Starts settings file start
