use Rattle.std.proofs.Common.{◌∙◌, ℕ, ◌==◌, length, ap}
use Rattle.inst_logged.proofs.BooksBehindFirstLine.{header_of_text, log_has_a_line}
use Rattle.inst_program.proofs.FirstLine.{lines_of_first, none_first, none_if_empty}
use Rattle.inst_program.proofs.carrying.beginning_of.Goals as goal

pub returns-then-is_empty-clause-found : goal.returns-then-is_empty-clause-found
returns-then-is_empty-clause-found g c = λ clean version mode s first are begins two.
    let lines = lines_of_first c.read_lines.result c.map_err.result _ c.in_ok-first.first _ c.map_err.ensures.cases c.map_err.ensures.variant c.in_ok-first.was c.read_lines.ensures.lines clean in
    log_has_a_line version mode s first (g.D.Disk.seen c.args.disk.now) are begins
    (none_first _ c.in_ok-first.first.items lines (none_if_empty (length c.in_ok-first.first.items) c.is_empty.result (c.is_empty.ensures ∙ ap (λ (n : ℕ). n == 0) c.in_ok-first.first.ok.0) c.if-is_empty.true))

pub returns-clause-found : goal.returns-clause-found
returns-clause-found g c = λ clean version mode s first are begins.
    let lines = lines_of_first c.read_lines.result c.map_err.result _ c.in_ok-first.first _ c.map_err.ensures.cases c.map_err.ensures.variant c.in_ok-first.was c.read_lines.ensures.lines clean in
    let line = header_of_text version mode s first (g.D.Disk.seen c.args.disk.now) c.deref.result.now are begins (c.deref.ensures.value ∙ lines) in
    (line.0, c.in_ok-read_beginning.ensures version mode s line.0 line.1)
