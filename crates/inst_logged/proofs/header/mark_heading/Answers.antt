use Rattle.std.proofs.Common.{sym, subst}
use Rattle.inst_logged.specs.Marking.{BeginsWithMarker}
use Rattle.inst_logged.specs.declared.version.Version.{Version}
use Rattle.inst_logged.proofs.Headings.{is_first}
use Rattle.inst_logged.proofs.header.mark_heading.Goals as goal

pub returns-in_ok-mark_lines-in-Two-clause-marker : goal.returns-in_ok-mark_lines-in-Two-clause-marker
returns-in_ok-mark_lines-in-Two-clause-marker c =
    subst (λ (v : Version). BeginsWithMarker v c.mark_lines.new.batch.items c.mark_lines.new.marker) (sym c.in-Two.is)
    (is_first c.new-marker.result c.mark_lines.new.marker c.args.lines.now.items c.mark_lines.new.batch.items c.new-marker.ensures c.requires.whole c.requires.plain
    (c.in_ok-mark_lines-in-Two.ensures.lines, c.in_ok-mark_lines-in-Two.ensures.digests))
