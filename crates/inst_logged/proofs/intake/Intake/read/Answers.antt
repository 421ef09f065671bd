use Rattle.std.proofs.Common.{◌≡◌, ◌+◌, ◌-◌, ◌≤◌, ℕ, [], ◌++◌, List, map, length, take, ◌∙◌, sym, subst, ap, arith}
use Rattle.std.proofs.lemmas.Grind.{common_steps}
use Rattle.std.proofs.lemmas.List.{with_items_is, length-take-le, length-drop}
use Rattle.std.proofs.lemmas.Result.{err_from_is_err_and}
use borrow.Rule.Slice.PartMut.{put_mid}
use Rattle.inst_lines.proofs.BufferAfterRead.{length-put_mid}
use Rattle.inst_log.specs.Layout.{recovered_lines}
use Rattle.inst_logged.specs.Input.{shortened_line, logged_line}
use Rattle.inst_logged.specs.inner.Input.{lines_from, rest_from}
use Rattle.inst_logged.specs.Intake.{line_part}
use Rattle.inst_logged.specs.inner.Failing.{FailsAtLog}
use Rattle.inst_logged.proofs.LinesFromPieces.{quiet_held}
use Rattle.inst_logged.proofs.CausesOfRefusalByCall.{passed}
use Rattle.inst_logged.proofs.BatchAfterRead.{read_behind, lines_taken, rest_taken}
use Rattle.inst_logged.proofs.ReadBehindPartOfLine.{plain_more, plain_raw, plain_logged}
use Rattle.inst_logged.proofs.intake.Intake.read.Goals as goal

pub returns-clause-lines : goal.returns-clause-lines
returns-clause-lines g c =
    let old = c.args.self.now in
    let xs = c.deref_mut.result.now in
    let new = c.read_bytes.new.buf in
    let n = c.in_ok-count.count in
    let k = length xs - old.len in
    let before = recovered_lines c.args.batch.now.items in
    let size : length xs ≡ 65536 = c.deref_mut.ensures.len ∙ old.size in
    let within : old.len ≤ length xs = omega (arith, old.within) in
    let room : length new ≡ k = c.read_bytes.auto.buf ∙ length-take-le _ _ (omega (arith, length-drop old.len xs)) in
    let few : n ≤ length new = omega (arith, c.in_ok-count.ensures.bound) in
    let bytes_are = ap (take (old.len + n)) (with_items_is old.bytes (put_mid old.len k xs new) (length-put_mid xs new old.len k (omega arith) room ∙ c.deref_mut.ensures.len))
    ∙ read_behind xs new old.len k n within few ∙ ap (λ (l : List ℕ). take old.len l ++ take n new) c.deref_mut.ensures.value in
    record {
      read = take n new;
      some = omega (arith, length-take-le n new few);
      consumes = c.in_ok-count.ensures.bytes.0;
      lines_are = λ part same.
          c.in_ok-take_lines.ensures.lines ∙ ap (λ (l : List ℕ). before ++ map logged_line (lines_from [] l)) bytes_are
          ∙ ap (λ (ls : List (List ℕ)). before ++ ls) (lines_taken part (line_part old) (take n new) same c.requires.part);
      held_is = λ part same.
          c.in_ok-take_lines.ensures.held ∙ ap (λ (l : List ℕ). shortened_line (rest_from [] l)) bytes_are
          ∙ rest_taken part (line_part old) (take n new) same c.requires.part;
    }

pub returns-clause-part : goal.returns-clause-part
returns-clause-part g c =
    let old = c.args.self.now in
    let xs = c.deref_mut.result.now in
    let new = c.read_bytes.new.buf in
    let n = c.in_ok-count.count in
    let k = length xs - old.len in
    let size : length xs ≡ 65536 = c.deref_mut.ensures.len ∙ old.size in
    let within : old.len ≤ length xs = omega (arith, old.within) in
    let room : length new ≡ k = c.read_bytes.auto.buf ∙ length-take-le _ _ (omega (arith, length-drop old.len xs)) in
    let few : n ≤ length new = omega (arith, c.in_ok-count.ensures.bound) in
    let bytes_are = ap (take (old.len + n)) (with_items_is old.bytes (put_mid old.len k xs new) (length-put_mid xs new old.len k (omega arith) room ∙ c.deref_mut.ensures.len))
    ∙ read_behind xs new old.len k n within few ∙ ap (λ (l : List ℕ). take old.len l ++ take n new) c.deref_mut.ensures.value in
    quiet_held (line_part old ++ take n new) _ (c.in_ok-take_lines.ensures.held ∙ ap (λ (l : List ℕ). shortened_line (rest_from [] l)) bytes_are)

pub take_last-requires-clause-part : goal.take_last-requires-clause-part
take_last-requires-clause-part g c = grind (arith, common_steps)

pub returns-then-count-eq0-clause-lines : goal.returns-then-count-eq0-clause-lines
returns-then-count-eq0-clause-lines g c = grind (arith, common_steps)

-- no line that was read is a mark
pub returns-then-count-eq0-clause-plain : goal.returns-then-count-eq0-clause-plain
returns-then-count-eq0-clause-plain g c = λ plain. plain_more _ _ _ c.in_ok-take_last.ensures.lines (plain_raw _) plain

pub returns-clause-plain : goal.returns-clause-plain
returns-clause-plain g c = λ plain. plain_more _ _ _ c.in_ok-take_lines.ensures.lines (plain_logged _) plain

pub returns-in_err-count-clause-failure : goal.returns-in_err-count-clause-failure
returns-in_err-count-clause-failure g c =
    passed _ c.from_residual.result _ (err_from_is_err_and c.from_residual.result c.from_residual.ensures.1)
    (subst (FailsAtLog ⊥ ⊥ ⊥) (sym c.in_err-count.ensures.fault) ((λ is. cc is), tt))

pub returns-in_err-take_last-clause-failure : goal.returns-in_err-take_last-clause-failure
returns-in_err-take_last-clause-failure g c = passed _ c.from_residual-in_err-take_last.result _ (err_from_is_err_and c.from_residual-in_err-take_last.result c.from_residual-in_err-take_last.ensures.1) ((λ is. cc is), tt)

pub returns-in_err-take_lines-clause-failure : goal.returns-in_err-take_lines-clause-failure
returns-in_err-take_lines-clause-failure g c = passed _ c.from_residual-in_err-take_lines.result _ (err_from_is_err_and c.from_residual-in_err-take_lines.result c.from_residual-in_err-take_lines.ensures.1) ((λ is. cc is), tt)
