use Rattle.std.proofs.Common.{◌+◌, ◌-◌, ◌≤◌, ℕ, [], List, length, drop, take, sym, ◌∙◌, ap, arith}
use Rattle.std.proofs.lemmas.List.{length-drop, length-take-le}
use Rattle.inst_logged.specs.Input.{shortened_line}
use Rattle.inst_logged.specs.inner.Input.{rest_from}
use Rattle.inst_logged.proofs.BatchAfterRead.{copied, cut_range}
use Rattle.inst_logged.proofs.intake.Intake.take_lines.Goals as goal

pub returns-clause-held : goal.returns-clause-held
returns-clause-held c =
    let xs = c.args.self.now.bytes.items in
    let old = c.args.self.now in
    let end = c.args.end in
    let start = c.in_ok-start.start in
    let m = c.min-len.result in
    let b = c.in_ok-start.ensures in
    let size : end ≤ length xs = omega (arith, c.requires.within, old.size, old.bytes.ok.0) in
    let front : start ≤ end = omega (arith, b.within, ap length c.deref.ensures.value, length-take-le end c.deref.result.now (omega (arith, size, ap length c.deref.ensures.value))) in
    let few : m ≤ length (drop start xs) = omega (arith, c.min-len.ensures, length-drop start xs) in
    ap (take m) c.copy_within.ensures.items
    ∙ copied xs start m ((start + m) - start) (omega arith) few
    ∙ ap (λ (n : ℕ). take n (drop start xs)) c.min-len.ensures
    ∙ cut_range xs start end
    ∙ ap (λ (l : List ℕ). shortened_line (drop start (take end l))) (sym c.deref.ensures.value)
    ∙ ap shortened_line b.rest_is
    ∙ ap (λ (l : List ℕ). shortened_line (rest_from [] (take end l))) c.deref.ensures.value
