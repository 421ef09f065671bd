-- A log that has more and more lines.
use Rattle.std.proofs.Common.{◌≡◌, refl, sym, ◌∙◌, ◌++◌, [], inl, ℕ, List, length, length-append, append_assoc, ap, subst, IsTrue, arith}
use Rattle.std.proofs.lemmas.List.{append-nil}
use Rattle.std.specs.Bool.{⊤}
use Rattle.sqlite_disk.specs.declared.Disk.{Ghosts}
use Rattle.inst_log.specs.Layout.{recovered_lines, blocks, IsShut}
use Rattle.inst_log.specs.Log.{IsOpenLog, HasGained, StandsWhole}
use Rattle.inst_log.specs.declared.log.Log.{Log}
use Rattle.inst_log.proofs.Lines.{blocks-append}

-- the lines end by the closed byte 0, so they do where more is asked
pub gained_where : {D : Type 0} (disks : Ghosts D) (lines : List (List ℕ)) (well : Type 0) (old new : Log D) → HasGained disks lines ⊤ old new → HasGained disks lines well old new
gained_where disks lines well old new gained = record {
  log = record {
    usable = gained.log.usable;
    settled = gained.log.settled;
    shut = λ clean _. gained.log.shut clean tt;
    calm = gained.log.calm;
  };
  end = gained.end;
}

-- none yet
pub gained_none : {D : Type 0} (disks : Ghosts D) (log : Log D) → IsOpenLog disks log → HasGained disks [] (IsShut (disks.seen log.disk)) log log
gained_none disks log is = record {
  log = record {
    usable = is.usable;
    settled = λ clean. (is.settled clean, sym (append-nil (recovered_lines (disks.seen log.disk))));
    shut = λ clean well. well;
    calm = refl;
  };
  end = omega arith;
}

-- and more behind these
pub gained_more : {D : Type 0} (disks : Ghosts D) (lines more : List (List ℕ)) (old mid new : Log D) → disks.is_clean new.disk ≡ disks.is_clean mid.disk → HasGained disks lines (IsShut (disks.seen old.disk)) old mid
    → HasGained disks more (IsShut (disks.seen mid.disk)) mid new → HasGained disks (lines ++ more) (IsShut (disks.seen old.disk)) old new
gained_more disks lines more old mid new clean gained next = record {
  log = record {
    usable = next.log.usable;
    settled = λ is.
        let (settled, stand) = next.log.settled is in
        (settled, stand ∙ ap (λ (ls : List (List ℕ)). ls ++ more) (gained.log.settled (subst IsTrue clean is)).1 ∙ append_assoc (recovered_lines (disks.seen old.disk)) lines more);
    shut = λ is well. next.log.shut is (gained.log.shut (subst IsTrue clean is) well);
    calm = next.log.calm ∙ gained.log.calm;
  };
  end = omega (arith, gained.end, next.end, ap length (blocks-append lines more), length-append (blocks lines) (blocks more));
}

-- nothing was written
pub stands_unwritten : {D : Type 0} (disks : Ghosts D) (batch : List (List ℕ)) (log : Log D) → IsOpenLog disks log → StandsWhole disks batch log.disk log.disk
stands_unwritten disks batch log is = record {
  lines = λ clean left may. inl (ap recovered_lines ((is.settled clean).durable left may));
  shut = λ mixes clean shut left may. subst IsShut (sym ((is.settled clean).durable left may)) shut;
  clean = refl;
}
