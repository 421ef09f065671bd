use Rattle.std.proofs.Common.{◌∙◌, List, ℕ, ap, sym, subst}
use Rattle.inst_log.specs.Layout.{recovered_lines, at_rest}
use Rattle.inst_chain.specs.Chain.{HasNoMark}
use Rattle.inst_chain.proofs.LinesWithoutMarks.{no_mark}
use Rattle.inst_logged.proofs.Headings.{marked_some, begins_closed}
use Rattle.inst_logged.proofs.header.close_heading.Goals as goal

pub close_batch-requires-clause-some : goal.close_batch-requires-clause-some
close_batch-requires-clause-some c = marked_some c.args.version _ _ c.requires.some c.in_ok-marker.ensures.lines

pub returns-clause-items : goal.returns-clause-items
returns-clause-items c =
    c.in_ok-close_batch.ensures.batch.whole ∙ ap at_rest (c.in_ok-close_batch.ensures.lines ∙ c.in_ok-marker.ensures.lines)

pub returns-clause-marker : goal.returns-clause-marker
returns-clause-marker c = begins_closed c.args.version c.mark_heading.new.lines.items c.close_batch.new.batch.items c.in_ok-marker.marker c.in_ok-close_batch.ensures.lines c.in_ok-marker.ensures.marker

pub mark_heading-requires-clause-plain : goal.mark_heading-requires-clause-plain
mark_heading-requires-clause-plain c = subst (λ (l : List ℕ). HasNoMark (recovered_lines l)) c.deref.ensures.value (no_mark _ (sym c.has_mark.ensures ∙ c.if-has_mark.false))
