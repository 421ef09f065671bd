use Rattle.std.proofs.Common.{◌∙◌, List, [], ◌∷◌, ℕ, length, ap, arith}
use Rattle.std.proofs.lemmas.Result.{IfOk-weaker}
use Rattle.inst_log.specs.Layout.{at_rest}
use Rattle.inst_log.specs.Escape.{raw_of}
use Rattle.inst_logged.specs.declared.header.Origin.{Origin}
use Rattle.inst_logged.specs.Header.{header, header_line, lines_and_mark}
use Rattle.inst_logged.proofs.header.first_batch.Goals as goal

pub close_heading-requires-clause-some : goal.close_heading-requires-clause-some
close_heading-requires-clause-some c = omega (arith, ap (λ (ls : List (List ℕ)). length ls) c.in_ok-lines.ensures.lines)

pub returns-clause-items : goal.returns-clause-items
unfolding header
returns-clause-items c =
    IfOk-weaker c.close_heading.result _ _ (λ heading is. is ∙ ap (λ (ls : List (List ℕ)). at_rest (lines_and_mark c.args.version ls)) c.in_ok-lines.ensures.lines
    ∙ ap (λ (o : Origin). at_rest (lines_and_mark c.args.version (raw_of (header_line c.args.version c.args.mode c.args.settings.now o) ∷ []))) c.first.ensures) c.close_heading.ensures.items
