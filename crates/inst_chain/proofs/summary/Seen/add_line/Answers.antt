use Rattle.std.proofs.Common.{sym, ◌∙◌, arith}
use Rattle.inst_chain.proofs.SummaryOfLines.{sees_mark, sees_line}
use Rattle.inst_chain.proofs.summary.Seen.add_line.Goals as goal

pub returns-then-is_mark : goal.returns-then-is_mark
returns-then-is_mark c = λ done s.
    sees_mark c.args.self.now _ done c.args.line.now s (c.in_ok-keep_first.ensures.first done s.first) (sym c.is_mark.ensures ∙ c.if-is_mark.true) c.in_ok-keep_first.ensures.rest.0 c.digest_in-self.ensures

pub returns-else-is_mark : goal.returns-else-is_mark
returns-else-is_mark c = λ done s.
    sees_line c.args.self.now _ done c.args.line.now s (c.in_ok-keep_first.ensures.first done s.first) (sym c.is_mark.ensures ∙ c.if-is_mark.false)
    (omega (arith, c.saturating_add-self.ensures, c.in_ok-keep_first.ensures.rest.0))
