use Rattle.std.proofs.Common.{◌++◌, List, ℕ, refl, ◌∙◌, sym, ap, subst, arith}
use Rattle.std.proofs.lemmas.Result.{IfOk-weaker, IfErr-weaker, err_from_is_err_and}
use Rattle.sqlite_disk.specs.Disk.{MoreFaults}
use Rattle.inst_log.specs.Layout.{recovered_lines}
use Rattle.inst_log.specs.Pieces.{IsReading}
use Rattle.inst_log.proofs.Pieces.{file_lines, all_cut, through}
use Rattle.inst_chain.specs.Chain.{has_wanted}
use Rattle.inst_chain.specs.Checking.{IsWrongAt}
use Rattle.inst_chain.proofs.PlaceOfDamage.{wrong_mark, damaged_err, log_failed, checked}
use Rattle.inst_chain.proofs.verifying.verify_rest.Goals as goal

pub loop-wanted-init : goal.loop-wanted-init
loop-wanted-init g c = record {
  reading = λ clean. let s = c.requires.started clean in (s.done, s.reading, s.stands, s.is_wanted);
  fits = c.requires.fits;
  read = record { left = record { same = refl; crash = λ f may. may }; usable = c.requires.usable; clean = λ clean. clean };
  calm = refl;
}

pub returns-in-Err-clause-cause : goal.returns-in-Err-clause-cause
returns-in-Err-clause-cause g c clean =
    let i = c.loop-wanted.invariant in
    let file = g.D.Disk.seen c.args.disk.now in
    let piece = c.in_ok-piece.piece.items in
    let before = i.reading (c.next.ensures.read.clean clean) in
    let reading = subst (λ (f : List ℕ). IsReading f c.next.new.self (before.0 ++ recovered_lines piece)) i.read.left.same
    (c.in_ok-piece.ensures.lines.reading clean before.0 (subst (λ (f : List ℕ). IsReading f c.loop-wanted.lines before.0) (sym i.read.left.same) before.1)) in
    wrong_mark file c.loop-wanted.checker before.0 _ piece c.in-Err.right before.2
    (subst (λ (l : List ℕ). IsWrongAt c.loop-wanted.checker l c.in-Err.right) c.deref.ensures.value c.in-Err.ensures.wrong)
    (file_lines file c.next.new.self.cutter (before.0 ++ recovered_lines piece) reading.cut)
    (omega (arith, reading.len, c.in_ok-piece.ensures.lines.len, i.fits))

pub returns-clause-found : goal.returns-clause-found
returns-clause-found g c =
    let i = c.loop-wanted.invariant in
    let file = g.D.Disk.seen c.args.disk.now in
    IfOk-weaker c.end.result _ _ (λ verified finds clean.
    finds file (checked file c.loop-wanted.lines c.loop-wanted.checker (i.reading clean).0 (i.reading clean).1 (i.reading clean).2 (sym c.has_more.ensures ∙ c.loop-wanted-test.false) i.fits)) c.end.ensures.found

pub returns-clause-wanted : goal.returns-clause-wanted
returns-clause-wanted g c =
    let i = c.loop-wanted.invariant in
    let file = g.D.Disk.seen c.args.disk.now in
    IfOk-weaker c.end.result _ _ (λ verified is clean.
    let r = i.reading clean in
    let all = all_cut file c.loop-wanted.lines.cutter r.0 r.1.cut (through file c.loop-wanted.lines r.0 r.1 (sym c.has_more.ensures ∙ c.loop-wanted-test.false)) in
    is ∙ r.3 ∙ ap (has_wanted c.args.wanted) (sym all)) c.end.ensures.wanted

pub returns-clause-cause : goal.returns-clause-cause
returns-clause-cause g c =
    let i = c.loop-wanted.invariant in
    let file = g.D.Disk.seen c.args.disk.now in
    damaged_err file _ _ _ c.end.result i.calm c.end.ensures.only (λ clean.
    IfErr-weaker c.end.result _ _ (λ error damaged.
    damaged file (checked file c.loop-wanted.lines c.loop-wanted.checker (i.reading clean).0 (i.reading clean).1 (i.reading clean).2 (sym c.has_more.ensures ∙ c.loop-wanted-test.false) i.fits)) c.end.ensures.damaged)

pub returns-in_err-piece-clause-cause : goal.returns-in_err-piece-clause-cause
returns-in_err-piece-clause-cause g c =
    let i = c.loop-wanted.invariant in
    let new = g.D.Disk.faults c.next.new.disk in
    log_failed (g.D.Disk.seen c.args.disk.now) _ _ _ _ _ c.from_residual.result _ (err_from_is_err_and c.from_residual.result c.from_residual.ensures.1)
    (λ failed clean.
    let before = i.reading (c.next.ensures.read.clean clean) in
    subst (λ (n : ℕ). MoreFaults n new) i.calm (failed clean before.0 (subst (λ (f : List ℕ). IsReading f c.loop-wanted.lines before.0) (sym i.read.left.same) before.1))) c.in_err-piece.ensures.cause
