-- What is said of an opening holds from before the disk was read.
use Rattle.std.proofs.Common.{◌≡◌, ◌∙◌, ◌++◌, ℕ, List, sym, subst}
use Rattle.sqlite_disk.specs.declared.Disk.{Ghosts}
use Rattle.inst_log.specs.Disks.{IsOnlyRead}
use Rattle.inst_log.specs.Layout.{recovered_lines, EndsWell}
use Rattle.inst_log.specs.Log.{IsSettled, HasLines}
use Rattle.inst_log.specs.Opening.{lines_after_settings, OpensAlike, IsSameOrBegun, SparesLines}
use Rattle.inst_log.specs.declared.log.Log.{Log}

pub spares_read : {D : Type 0} (disks : Ghosts D) (settings : List ℕ) (old mid new : D) → IsOnlyRead disks old mid → SparesLines disks settings mid new → SparesLines disks settings old new
spares_read disks settings old mid new read spares = record {
  alike = λ clean left may. subst (λ (f : List ℕ). OpensAlike settings f left) read.left.same (spares.alike clean left may);
  stands = λ clean left may. subst (λ (f : List ℕ). IsSameOrBegun settings f left) read.left.same (spares.stands clean left may);
  shut = λ mixes clean well. spares.shut mixes clean (subst EndsWell (sym read.left.same) well);
  clean = λ clean. read.clean (spares.clean clean);
}

pub lines_read : {D : Type 0} (disks : Ghosts D) (settings : List ℕ) (old mid new : Log D) → disks.seen mid.disk ≡ disks.seen old.disk → disks.faults mid.disk ≡ disks.faults old.disk
    → HasLines disks (recovered_lines settings ++ lines_after_settings settings (disks.seen mid.disk)) (EndsWell (disks.seen mid.disk)) mid new
    → HasLines disks (recovered_lines settings ++ lines_after_settings settings (disks.seen old.disk)) (EndsWell (disks.seen old.disk)) old new
lines_read disks settings old mid new same calm lines = record {
  usable = lines.usable;
  settled = λ clean. subst (λ (f : List ℕ). IsSettled disks.seen disks.may_leave new × (recovered_lines (disks.seen new.disk) ≡ recovered_lines settings ++ lines_after_settings settings f)) same (lines.settled clean);
  shut = λ clean well. lines.shut clean (subst EndsWell (sym same) well);
  calm = lines.calm ∙ calm;
}
