-- A disk that was only read.
use Rattle.std.proofs.Common.{◌≡◌, ◌∙◌, ℕ, List, Option, Result, Ok, Err, OnOk, ap, sym, subst}
use Rattle.sqlite_disk.specs.declared.Disk.{Ghosts}
use Rattle.inst_log.specs.Disks.{IsOnlyRead}
use Rattle.inst_log.specs.Layout.{recovered_lines, HasClosedByte, IsShut}
use Rattle.inst_log.specs.Log.{IsSettled, HasLines}
use Rattle.inst_log.specs.Opening.{SparesLines}
use Rattle.inst_log.specs.declared.log.Log.{Log}
use Rattle.inst_log.specs.Serving.{Replies, TellsKept}

-- a crash leaves no other file than before
pub kept_read : (lines_in : List ℕ → List (List ℕ)) (old new : List ℕ → Type 0) (says : Replies → Type 0) (first read : List (List ℕ)) (before now : Option (List ℕ))
    → ((c : List ℕ) → new c → old c) → TellsKept lines_in old says first read before now → TellsKept lines_in new says first read before now
kept_read lines_in old new says first read before now less t = record {
  told = t.told;
  handed = t.handed;
  kept = λ c may. t.kept c (less c may);
}

pub read_twice : {D : Type 0} (disks : Ghosts D) (old mid new : D) → IsOnlyRead disks old mid → IsOnlyRead disks mid new → IsOnlyRead disks old new
read_twice disks old mid new first then = record {
  left = record {
    same = then.left.same ∙ first.left.same;
    crash = λ left may. first.left.crash left (then.left.crash left may);
  };
  usable = then.usable;
  clean = λ clean. first.clean (then.clean clean);
}

pub settled_after_read : {D : Type 0} (disks : Ghosts D) (mid new : Log D) → IsOnlyRead disks mid.disk new.disk → new.end ≡ mid.end → IsSettled disks.seen disks.may_leave mid → IsSettled disks.seen disks.may_leave new
settled_after_read disks mid new read end settled = record {
  closed = subst (λ (f : List ℕ). HasClosedByte f new.end) (sym read.left.same) (subst (HasClosedByte (disks.seen mid.disk)) (sym end) settled.closed);
  durable = λ left may. settled.durable left (read.left.crash left may) ∙ sym read.left.same;
}

-- what is said of a log that was opened holds from before it was read again
pub lines_after_read : {D : Type 0} (disks : Ghosts D) (lines : List (List ℕ)) (well : Type 0) (old mid new : Log D) → IsOnlyRead disks mid.disk new.disk → new.end ≡ mid.end → disks.faults new.disk ≡ disks.faults mid.disk
    → HasLines disks lines well old mid → HasLines disks lines well old new
lines_after_read disks lines well old mid new read end calm has = record {
  usable = read.usable;
  settled = λ clean.
      let (settled, stand) = has.settled (read.clean clean) in
      (settled_after_read disks mid new read end settled, ap recovered_lines read.left.same ∙ stand);
  shut = λ clean is. subst IsShut (sym read.left.same) (has.shut (read.clean clean) is);
  calm = calm ∙ has.calm;
}

pub spares_after_read : {D : Type 0} (disks : Ghosts D) (settings : List ℕ) (old mid new : D) → IsOnlyRead disks mid new → SparesLines disks settings old mid → SparesLines disks settings old new
spares_after_read disks settings old mid new read spares = record {
  alike = λ clean left may. spares.alike (read.clean clean) left (read.left.crash left may);
  stands = λ clean left may. spares.stands (read.clean clean) left (read.left.crash left may);
  shut = λ mixes clean well left may. spares.shut mixes (read.clean clean) well left (read.left.crash left may);
  clean = λ clean. spares.clean (read.clean clean);
}

pub on_ok_any : {T E : Type 0} (r : Result T E) (P : Type 0) → P → OnOk r P
on_ok_any (Ok v) P is = is
on_ok_any (Err e) P is = tt
