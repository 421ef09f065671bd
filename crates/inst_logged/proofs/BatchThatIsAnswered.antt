-- What is said of a batch that is answered, where the size of the log's file is asked before and after.
use Rattle.std.proofs.Common.{◌≡◌, ◌∙◌, ◌+◌, ◌++◌, [], inl, ℕ, List, Option, length, ap, sym, subst, IsTrue}
use Rattle.sqlite_disk.specs.declared.Disk.{Ghosts}
use Rattle.inst_log.specs.Disks.{HasKeptFaith, IsOnlyRead}
use Rattle.inst_log.specs.Layout.{recovered_lines, blocks, IsShut}
use Rattle.inst_log.specs.Log.{IsOpenLog, IsBeforeOrAfter, HasGained, StandsWhole}
use Rattle.inst_log.specs.Serving.{Replies, TellsKept}
use Rattle.inst_log.specs.declared.log.Log.{Log}
use Rattle.inst_log.proofs.ToldRepliesAreKept.{kept_before}
use Rattle.inst_logged.specs.inner.Serving.{KeepsBatch}
use Rattle.inst_logged.proofs.DiskThatWasOnlyRead.{kept_read, lines_after_read}

-- nothing was written
pub keeps_unwritten : {D : Type 0} (disks : Ghosts D) (says : Replies → Type 0) (batch : List (List ℕ)) (log : Log D) (new : D) (before : Option (List ℕ)) → ((f : Replies) → says f → f [] ≡ []) → IsOpenLog disks log → IsOnlyRead disks log.disk new
    → KeepsBatch disks says batch log.disk new before before
keeps_unwritten disks says batch log new before none is read = record {
  kept = λ clean. kept_before says _ batch _ _ none (λ left may. inl (ap recovered_lines ((is.settled (read.clean clean)).durable left (read.left.crash left may))));
  stands = λ clean left may. inl (ap recovered_lines ((is.settled (read.clean clean)).durable left (read.left.crash left may)));
  shut = λ mixes clean shut left may. subst IsShut (sym ((is.settled (read.clean clean)).durable left (read.left.crash left may))) shut;
  clean = read.clean;
}

-- the size was asked before
pub keeps_behind : {D : Type 0} (disks : Ghosts D) (says : Replies → Type 0) (batch : List (List ℕ)) (old mid new : D) (before after : Option (List ℕ)) → IsOnlyRead disks old mid
    → (HasKeptFaith disks new → TellsKept recovered_lines (disks.may_leave new) says (recovered_lines (disks.seen mid)) batch before after) → StandsWhole disks batch mid new → KeepsBatch disks says batch old new before after
keeps_behind disks says batch old mid new before after read kept stands = record {
  kept = λ clean. subst (λ (f : List ℕ). TellsKept recovered_lines (disks.may_leave new) says (recovered_lines f) batch before after) read.left.same (kept clean);
  stands = λ clean left may. subst (λ (f : List ℕ). IsBeforeOrAfter (recovered_lines f) batch left) read.left.same (stands.lines clean left may);
  shut = λ mixes clean shut left may. stands.shut mixes clean (subst IsShut (sym read.left.same) shut) left may;
  clean = λ clean. read.clean (subst IsTrue stands.clean clean);
}

-- and after
pub keeps_read : {D : Type 0} (disks : Ghosts D) (says : Replies → Type 0) (batch : List (List ℕ)) (old mid new : D) (before after : Option (List ℕ)) → IsOnlyRead disks mid new → KeepsBatch disks says batch old mid before after
    → KeepsBatch disks says batch old new before after
keeps_read disks says batch old mid new before after read keeps = record {
  kept = λ clean. kept_read recovered_lines (disks.may_leave mid) (disks.may_leave new) says _ _ _ _ read.left.crash (keeps.kept (read.clean clean));
  stands = λ clean left may. keeps.stands (read.clean clean) left (read.left.crash left may);
  shut = λ mixes clean shut left may. keeps.shut mixes (read.clean clean) shut left (read.left.crash left may);
  clean = λ clean. keeps.clean (read.clean clean);
}

pub gained_measured : {D : Type 0} (disks : Ghosts D) (lines : List (List ℕ)) (old mid served new : Log D) → disks.seen mid.disk ≡ disks.seen old.disk → mid.end ≡ old.end → disks.faults mid.disk ≡ disks.faults old.disk
    → HasGained disks lines (IsShut (disks.seen mid.disk)) mid served → IsOnlyRead disks served.disk new.disk → new.end ≡ served.end → disks.faults new.disk ≡ disks.faults served.disk → HasGained disks lines (IsShut (disks.seen old.disk)) old new
gained_measured disks lines old mid served new same end calm gained read end' calm' =
    let has = lines_after_read disks _ _ mid served new read end' calm' gained.log in
    record {
      log = record {
        usable = has.usable;
        settled = λ clean. ((has.settled clean).0, (has.settled clean).1 ∙ ap (λ (f : List ℕ). recovered_lines f ++ lines) same);
        shut = λ clean shut. has.shut clean (subst IsShut (sym same) shut);
        calm = has.calm ∙ calm;
      };
      end = end' ∙ gained.end ∙ ap (λ (n : ℕ). n + length (blocks lines)) end;
    }
