use Rattle.std.proofs.Common.{ap, ◌∙◌}
use Rattle.inst_journal.specs.Money.{available}
use Rattle.inst_ledger.specs.Book.{LedgerBook}
use Rattle.inst_books.proofs.ComparisonOfNumbers.{decides_le}
use Rattle.inst_books.proofs.replay.Replay.covers.Goals as goal

pub returns : goal.returns
returns c =
    decides_le c.from.result c.available.result c.args.cents (available c.args.self.now.events) (c.from.ensures ∙ c.get.ensures.value)
    (c.available.ensures ∙ ap (λ (b : LedgerBook). available b.events) c.self.view_is)
