-- The state of a log's disk after a call. A disk has kept faith as long as none of its wrong
-- answers was taken as true. A choice of this hub.
use Rattle.std.specs.Prelude.{◌≡◌, ℕ, List, IsTrue}
use Rattle.sqlite_disk.specs.Disk.{Only}
use Rattle.sqlite_disk.specs.declared.Disk.{Ghosts}

-- The disk has kept faith: all that was read of it is true.
abbrev pub HasKeptFaith : {D : Type 0} → Ghosts D → D → Type 0
HasKeptFaith disks disk = IsTrue (disks.is_clean disk)

-- The file is unchanged, and a crash leaves no file that it couldn't leave before.
pub record HasSameFile {D : Type 0} (disks : Ghosts D) (old new : D) : Type 0 where
  pub same : disks.seen new ≡ disks.seen old
  pub crash : (c : List ℕ) → disks.may_leave new c → disks.may_leave old c

-- The disk was only read: its file is unchanged and it is usable. If it has kept faith now, it had
-- before.
pub record IsOnlyRead {D : Type 0} (disks : Ghosts D) (old new : D) : Type 0 where
  pub left : HasSameFile disks old new
  pub usable : IsTrue (disks.is_usable new)
  pub clean : HasKeptFaith disks new → HasKeptFaith disks old

-- A disk on which a log can be opened: it is usable, and reads return what is on it, as after a
-- restart.
pub record IsJustOpened {D : Type 0} (disks : Ghosts D) (disk : D) : Type 0 where
  pub usable : IsTrue (disks.is_usable disk)
  pub known : HasKeptFaith disks disk → Only (disks.seen disk) (disks.may_leave disk)
