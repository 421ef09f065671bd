use Rattle.std.proofs.Common.{◌≡◌, ℕ, ◌+◌, ◌≤◌, ◌++◌, List, map, length, take, sym, ◌∙◌, ap, subst, arith}
use Rattle.std.proofs.lemmas.List.{take_rest, length-drop, append-nil}
use Rattle.inst_base.specs.Newline.{NoNewline}
use Rattle.inst_log.specs.Layout.{recovered_lines}
use Rattle.inst_log.specs.Escape.{raw_of}
use Rattle.inst_logged.specs.Input.{logged_line}
use Rattle.inst_logged.proofs.LinesFromPieces.{lines_none, rest_none}
use Rattle.inst_logged.proofs.BatchAfterRead.{quiet_line, lines_pushed, rest_next, suffix_more}
use Rattle.inst_logged.proofs.intake.push_lines.Goals as goal

pub push_line-requires-clause-line : goal.push_line-requires-clause-line
push_line-requires-clause-line c =
    subst (λ (n : ℕ). NoNewline (take n c.loop-len.rest.now)) (sym c.min.ensures) (quiet_line c.loop-len.rest.now c.in-Some.len c.in-Some.ensures)

pub loop-len-preserved : goal.loop-len-preserved
loop-len-preserved c =
    let rest = c.loop-len.rest.now in
    let len = c.in-Some.len in
    let b = c.in-Some.ensures in
    let i = c.loop-len.invariant in
    let few : len + 1 ≤ length rest = omega (arith, b.within) in
    let raw : raw_of (take c.min.result rest) ≡ _ = ap (λ (n : ℕ). raw_of (take n rest)) c.min.ensures in
    rw take_rest (record {
      within = omega (arith, i.within, length-drop (len + 1) rest);
      suffix = suffix_more c.args.bytes.now rest (len + 1) i.suffix i.within few;
      whole = c.in_ok-push_line.ensures.whole;
      lines = lines_pushed rest len b (recovered_lines c.loop-len.batch.items) (recovered_lines c.push_line.new.batch.items) (raw_of (take c.min.result rest)) raw c.in_ok-push_line.ensures.lines ∙ i.lines;
      rest = sym (rest_next rest len b) ∙ i.rest;
    })

pub returns : goal.returns
returns c =
    let i = c.loop-len.invariant in
    let rest = c.loop-len.rest.now in
    let none : NoNewline rest = c.in_default.ensures in
    let after = recovered_lines c.loop-len.batch.items in
    record {
      within = omega arith;
      rest_is = i.suffix ∙ sym (rest_none rest none) ∙ i.rest;
      whole = i.whole;
      lines_are = sym (append-nil after) ∙ ap (λ (ls : List (List ℕ)). after ++ map logged_line ls) (sym (lines_none rest none)) ∙ i.lines;
    }
