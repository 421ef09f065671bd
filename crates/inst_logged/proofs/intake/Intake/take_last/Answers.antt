use Rattle.std.proofs.Common.{◌≡◌, ◌<◌, ◌≤◌, ℕ, [], ◌∷◌, ◌++◌, List, map, length, take, sym, ◌∙◌, ap, arith}
use Rattle.std.proofs.lemmas.List.{append-nil, length-take-le}
use Rattle.inst_log.specs.Layout.{recovered_lines}
use Rattle.inst_log.specs.Escape.{raw_of}
use Rattle.inst_logged.specs.inner.Input.{last_line}
use Rattle.inst_logged.specs.Intake.{line_part}
use Rattle.inst_logged.proofs.BatchAfterRead.{last_some}
use Rattle.inst_logged.proofs.intake.Intake.take_last.Goals as goal
use Rattle.inst_logged.proofs.intake.Intake.take_last.Goals.{then-self-gt0+in_ok-push_line, else-self-gt0}

pub returns-clause-lines : goal.returns-clause-lines
returns-clause-lines c =
    let old = c.args.self.now in
    let before = recovered_lines c.args.batch.now.items in
    elim c.if-self-gt0.branch [
      | then-self-gt0+in_ok-push_line w ↦
          let size : old.len ≤ length old.bytes.items = omega (arith, old.within, old.size, old.bytes.ok.0) in
          let some : 0 < length (line_part old) = omega (arith, w.if-self-gt0.true, length-take-le old.len old.bytes.items size) in
          ap (λ b. recovered_lines b.items) w.batch-is ∙ w.in_ok-push_line.ensures.lines
          ∙ ap (λ (l : List ℕ). before ++ raw_of (take old.len l) ∷ []) w.deref.ensures.value
          ∙ ap (λ (ls : List (List ℕ)). before ++ map raw_of ls) (sym (last_some (line_part old) some))
      | else-self-gt0 w ↦
          let none : old.len ≡ 0 = omega (arith, w.if-self-gt0.false) in
          ap (λ b. recovered_lines b.items) w.batch-is ∙ sym (append-nil before)
          ∙ ap (λ (n : ℕ). before ++ map raw_of (last_line (take n old.bytes.items))) (sym none)
    ]
