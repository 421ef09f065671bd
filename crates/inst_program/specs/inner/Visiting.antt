-- A log that was opened and closed again.
use Rattle.std.specs.Prelude.{◌≡◌, ℕ, List, IsTrue}
use Rattle.sqlite_disk.specs.declared.Disk.{Ghosts}
use Rattle.inst_log.specs.Disks.{HasKeptFaith}
use Rattle.inst_program.specs.Files.{AllAreIn, Change, Files, IfKept, OthersStay, change_of}
use Rattle.inst_program.specs.Files.{change_on}

-- Only the file of this name was opened, and it is closed again.
pub record IsVisited (old new : Files) (name : List ℕ) : Type 0 where
  pub clean : IfKept new (IsTrue old.is_clean)
  pub others : OthersStay old new name
  pub all_in : AllAreIn new

-- The two changes are the same.
pub record IsSameChange (c d : Change) : Type 0 where
  pub was : d.was ≡ c.was
  pub now : d.now ≡ c.now
  pub could : (file : List ℕ) → c.could_leave file → d.could_leave file
  pub may : (file : List ℕ) → d.may_leave file → c.may_leave file

-- The file was opened as the one disk and closed as the other.
pub record IsVisitedAs {D : Type 0} (disks : Ghosts D) (old new : Files) (name : List ℕ)
    (disk disk' : D) : Type 0 where
  pub faith : IfKept new (HasKeptFaith disks disk')
  pub change : IfKept new (IsSameChange (change_on disks disk disk') (change_of old new name))
  pub visit : IsVisited old new name
