-- When a hub may run on a disk.
use Rattle.std.proofs.Common.{◌≡◌, ◌∙◌, IsTrue, sym, subst}
use Rattle.sqlite_disk.specs.Disk.{Only}
use Rattle.sqlite_disk.specs.declared.Disk.{Ghosts}
use Rattle.inst_logged.specs.Logged.{IsUnbegun}
use Rattle.inst_log.specs.Disks.{HasSameFile}
use Rattle.inst_logged.specs.Running.{disk_of, IsReadyHub}
use Rattle.inst_logged.specs.declared.hub.LoggedHub.{LoggedHub}

module _ {D : Type 0} (disks : Ghosts D) where
  -- it has answered nothing, and what is read of its disk is on it
  pub ready_on : (hub : LoggedHub D) (disk : D) → IsUnbegun hub.version hub.header.items hub.marker hub.intake → disk_of hub ≡ disk → IsTrue (disks.is_usable disk)
      → Only (disks.seen disk) (disks.may_leave disk) → IsReadyHub disks hub
  ready_on hub disk unbegun same usable known = record {
    unbegun = unbegun;
    usable = subst (λ (d : D). IsTrue (disks.is_usable d)) (sym same) usable;
    known = λ clean. subst (λ (d : D). Only (disks.seen d) (disks.may_leave d)) (sym same) known;
  }

  -- so it is with a disk that was only read
  pub left_known : (a b : D) → HasSameFile disks a b → Only (disks.seen a) (disks.may_leave a) → Only (disks.seen b) (disks.may_leave b)
  left_known a b left known file may = known file (left.crash file may) ∙ sym left.same
