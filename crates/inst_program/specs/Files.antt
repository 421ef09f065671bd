-- The files of the machine, by name. A choice of this hub.
use Rattle.std.specs.Prelude.{◌≡◌, ◌≢◌, ◌⊎◌, ℕ, Bool, List, Option, None, Some, IsTrue}
use Rattle.sqlite_disk.specs.declared.Disk.{Ghosts}

-- The bytes of each file, and the files that a crash may leave of it; a file that doesn't exist has
-- no bytes. `out`: the file that is open as a disk, if any. `mixes`: a crash leaves each byte of a
-- torn write old or new. `in_use`: another program may have the file open. `is_clean`: each file
-- that was opened had the bytes stated here, and no wrong answer of its disk was taken as true.
pub record Files : Type 1 where
  pub bytes : List ℕ → List ℕ
  pub may_leave : List ℕ → List ℕ → Type 0
  pub out : Option (List ℕ)
  pub mixes : Type 0
  pub in_use : List ℕ → Type 0
  pub is_clean : Bool

-- This holds if the disks have kept faith.
abbrev pub IfKept : Files → Type 0 → Type 0
IfKept files holds = IsTrue files.is_clean → holds

-- A file before and after: its bytes, and the files that a crash may leave of it.
pub record Change : Type 1 where
  pub was : List ℕ
  pub now : List ℕ
  pub could_leave : List ℕ → Type 0
  pub may_leave : List ℕ → Type 0

-- The change of the file of this name.
abbrev pub change_of : Files → Files → List ℕ → Change
change_of old new name =
    record {
      was = old.bytes name;
      now = new.bytes name;
      could_leave =
          old.may_leave name;
      may_leave = new.may_leave name;
    }

-- The change of the file on a disk.
abbrev pub change_on : {D : Type 0} → Ghosts D → D → D → Change
change_on disks old new =
    record {
      was = disks.seen old;
      now = disks.seen new;
      could_leave =
          disks.may_leave old;
      may_leave = disks.may_leave new;
    }

-- The file as it is now, or one that a crash may leave.
abbrev pub MayBe : Change → List ℕ → Type 0
MayBe c file = (file ≡ c.now) ⊎ c.may_leave file

-- The file is unchanged, and a crash leaves no file that it couldn't leave before.
pub record IsAsItWas (c : Change) : Type 0 where
  pub same : c.now ≡ c.was
  pub crash : (file : List ℕ) → c.may_leave file → c.could_leave file

-- All files are unchanged.
abbrev pub Stay : Files → Files → Type 0
Stay old new = IfKept new ((name : List ℕ) → IsAsItWas (change_of old new name))

-- All files but this one are unchanged.
abbrev pub OthersStay : Files → Files → List ℕ → Type 0
OthersStay old new name =
    IfKept new ((other : List ℕ) → other ≢ name → IsAsItWas (change_of old new other))

-- All files but these two are unchanged.
abbrev pub AllButTwoStay : Files → Files → List ℕ → List ℕ → Type 0
AllButTwoStay old new one two =
    IfKept new ((other : List ℕ) → other ≢ one → other ≢ two → IsAsItWas (change_of old new other))

-- No file is open.
abbrev pub AllAreIn : Files → Type 0
AllAreIn files = IfKept files (files.out ≡ None)

-- All files are unchanged, and the same one is open.
pub record IsUntouched (old new : Files) : Type 0 where
  pub clean : IfKept new (IsTrue old.is_clean)
  pub all : Stay old new
  pub out : IfKept new (new.out ≡ old.out)

-- The file of this name was opened, as a disk with these bytes and these possible files after a
-- crash.
pub record IsFileOpened (old new : Files) (name bytes : List ℕ) (may_leave : List ℕ →
    Type 0) : Type 0 where
  pub clean : IfKept new (IsTrue old.is_clean)
  pub all : Stay old new
  pub same : IfKept new (bytes ≡ old.bytes name)
  pub crash : IfKept new ((file : List ℕ) → may_leave file → old.may_leave name file)
  pub out : IfKept new (new.out ≡ Some name)

-- The file was closed, when its disk had these bytes and these possible files after a crash.
pub record IsFileClosed (old new : Files) (name bytes : List ℕ) (may_leave : List ℕ →
    Type 0) : Type 0 where
  pub same : new.bytes name ≡ bytes
  pub crash : (file : List ℕ) → new.may_leave name file → may_leave file
  pub others : (other : List ℕ) → other ≢ name → IsAsItWas (change_of old new other)
  pub out : new.out ≡ None
