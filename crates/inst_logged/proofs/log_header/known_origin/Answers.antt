use Rattle.std.proofs.Common.{◌≡◌, ◌∙◌, ap, sym}
use Rattle.inst_logged.specs.Header.{header_line}
use Rattle.inst_logged.proofs.FirstLine.{bare_line, alike}
use Rattle.inst_logged.proofs.log_header.known_origin.Goals as goal

pub returns-then-ne-clause-back : goal.returns-then-ne-clause-back
returns-then-ne-clause-back c = λ origin first.
    let found = c.in_ok-origin.ensures.back c.args.version c.args.mode c.args.settings.now origin first in
    let line = bare_line c.args.version c.args.mode c.args.settings.now origin first c.without_newline-line.ensures in
    let same : c.as_bytes.result.now ≡ c.without_newline-line.result.now =
    c.as_bytes.ensures.value ∙ c.in_ok-expected.ensures ∙ ap (header_line c.args.version c.args.mode c.args.settings.now) found ∙ sym line in
    absurd (alike c.as_bytes.result.now c.without_newline-line.result.now same (sym c.ne.ensures ∙ c.if-ne.true))

pub returns-clause-back : goal.returns-clause-back
returns-clause-back c = λ origin first. c.in_ok-origin.ensures.back c.args.version c.args.mode c.args.settings.now origin first
