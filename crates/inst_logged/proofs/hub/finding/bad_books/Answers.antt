use Rattle.std.proofs.Common.{true≢false, sym, ◌∙◌}
use Rattle.inst_logged.proofs.hub.finding.bad_books.Goals as goal

pub returns-then-not-has_mark_at : goal.returns-then-not-has_mark_at
returns-then-not-has_mark_at c = λ rest is. absurd (true≢false (sym (c.has_mark_at.ensures rest is) ∙ c.if-not-has_mark_at.true))
