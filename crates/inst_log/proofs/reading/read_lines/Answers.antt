use Rattle.std.proofs.Common.{◌≡◌, ◌++◌, [], List, ℕ, length, take, refl, ◌∙◌, sym, ap, subst, arith, length-append, rules}
use Rattle.std.proofs.lemmas.Result.{err_from_is_err_and}
use Rattle.sqlite_disk.specs.Disk.{MoreFaults}
use Rattle.inst_log.specs.Layout.{recovered_lines, blocks, AreWholeLines}
use Rattle.inst_log.specs.Pieces.{IsReading}
use Rattle.inst_log.proofs.Pieces.{lines_short, lines_more, whole_more, first_of, enough_lines, all_cut, through}
use Rattle.inst_log.proofs.CausesOfErrors.{counts_passed}
use Rattle.inst_log.proofs.reading.read_lines.Goals.{then-loop-found-test+else-has_more, else-loop-found-test}
use Rattle.inst_log.proofs.reading.read_lines.Goals as goal

pub loop-found-init : goal.loop-found-init
loop-found-init g c =
    let file = g.D.Disk.seen c.args.disk.now in
    let none : c.new-text.result.items ≡ [] = c.new-text.ensures.items in
    record {
      reading = λ clean.
          subst (λ (l : List ℕ). IsReading file c.in_ok-lines.lines (recovered_lines l)) (sym none) (c.in_ok-lines.ensures.reading clean [] file refl refl refl);
      whole = subst AreWholeLines (sym none) refl;
      found = ap (λ (l : List ℕ). length (recovered_lines l)) (sym none);
      read = c.new.ensures.read;
      calm = c.in_ok-lines.ensures.cause;
    }

pub overflow_add-found : goal.overflow_add-found
overflow_add-found g c =
    omega (
      arith,
      c.loop-found.invariant.found,
      lines_short c.loop-found.text.items,
      c.loop-found.text.small,
      c.in_ok-piece.piece.small,
      c.count_lines.ensures.within,
      ap length c.deref.ensures.value,
    )

pub loop-found-preserved : goal.loop-found-preserved
loop-found-preserved g c =
    let i = c.loop-found.invariant in
    let text = c.loop-found.text.items in
    let piece = c.in_ok-piece.piece.items in
    let file = g.D.Disk.seen c.args.disk.now in
    let both : c.extend_from_slice.new.self.items ≡ text ++ piece = search rules in
    let lines : recovered_lines c.extend_from_slice.new.self.items ≡ recovered_lines text ++ recovered_lines piece = ap recovered_lines both ∙ lines_more text piece i.whole in
    let counted : c.count_lines.result ≡ length (recovered_lines piece) = c.count_lines.ensures.count ∙ ap (λ (l : List ℕ). length (recovered_lines l)) c.deref.ensures.value in
    record {
      reading = λ clean.
          let was = subst (λ (f : List ℕ). IsReading f c.loop-found.lines (recovered_lines text)) (sym i.read.left.same) (i.reading (c.next.ensures.read.clean clean)) in
          let now = subst (λ (f : List ℕ). IsReading f c.next.new.self (recovered_lines text ++ recovered_lines piece)) i.read.left.same (c.in_ok-piece.ensures.lines.reading clean (recovered_lines text) was) in
          subst (IsReading file c.next.new.self) (sym lines) now;
      whole = subst AreWholeLines (sym both) (whole_more text piece i.whole c.in_ok-piece.ensures.lines.whole);
      found = omega (arith, i.found, counted, ap length lines, length-append (recovered_lines text) (recovered_lines piece));
      read = record {
        left = record {
          same = c.next.ensures.read.left.same ∙ i.read.left.same;
          crash = λ left may. i.read.left.crash left (c.next.ensures.read.left.crash left may);
        };
        usable = c.next.ensures.read.usable;
        clean = λ clean. i.read.clean (c.next.ensures.read.clean clean);
      };
      calm = c.in_ok-piece.ensures.cause ∙ i.calm;
    }

pub returns-clause-lines : goal.returns-clause-lines
returns-clause-lines g c clean =
    let i = c.loop-found.invariant in
    let text = c.loop-found.text.items in
    let file = g.D.Disk.seen c.args.disk.now in
    let reading = i.reading clean in
    let size : c.lines_len.result ≡ length (blocks (take c.args.count (recovered_lines text))) =
    c.lines_len.ensures.len ∙ ap (λ (l : List ℕ). length (blocks (take c.args.count (recovered_lines l)))) c.deref-2.ensures.value in
    let cut : c.truncate.new.self.items ≡ take c.lines_len.result text = search rules in
    let enough : take c.args.count (recovered_lines file) ≡ take c.args.count (recovered_lines text) = elim c.loop-found-test.branch [
      | then-loop-found-test+else-has_more w ↦
          ap (take c.args.count) (all_cut file c.loop-found.lines.cutter (recovered_lines text) reading.cut (through file c.loop-found.lines (recovered_lines text) reading (sym w.has_more.ensures ∙ w.if-has_more.false)))
      | else-loop-found-test w ↦
          enough_lines file c.loop-found.lines.cutter (recovered_lines text) c.args.count reading.cut (omega (arith, w.loop-found-test.false, i.found))
    ] in
    cut ∙ first_of text c.args.count c.lines_len.result i.whole size ∙ ap blocks (sym enough)

pub returns-in_err-piece-clause-cause : goal.returns-in_err-piece-clause-cause
returns-in_err-piece-clause-cause g c =
    let i = c.loop-found.invariant in
    let old = g.D.Disk.faults c.args.disk.now in
    let new = g.D.Disk.faults c.next.new.disk in
    let done = recovered_lines c.loop-found.text.items in
    counts_passed _ _ _ c.from_residual-in_err-piece.result _ (err_from_is_err_and c.from_residual-in_err-piece.result c.from_residual-in_err-piece.ensures.1)
    (λ failed clean. subst (λ (n : ℕ). MoreFaults n new) i.calm
    (failed clean done (subst (λ (f : List ℕ). IsReading f c.loop-found.lines done) (sym i.read.left.same) (i.reading (c.next.ensures.read.clean clean))))) c.in_err-piece.ensures.cause
