use Rattle.std.proofs.Common.{sym, subst, arith}
use Rattle.std.proofs.lemmas.Grind.{common_steps}
use Rattle.inst_journal.specs.Sound.{Fits}
use Rattle.inst_ledger.specs.Book.{LedgerBook}
use Rattle.inst_ledger.proofs.HistoryEventByEvent.{fits_at_place}
use Rattle.inst_ledger.proofs.ledger.Ledger.keep_all.Goals as goal

pub keep-requires : goal.keep-requires
keep-requires c =
    subst (λ (b : LedgerBook). Fits b.settings b.who b.events c.event-item.result) (sym c.loop-event.invariant)
    (fits_at_place c.args.self.now.book.settings c.args.self.now.book.who c.args.journal.now.events c.events-event-items.result.now c.loop-event.event-index c.event-item.result c.events-event-items.ensures c.requires.sound c.loop-event-test.true c.event-item.is)

pub loop-event-preserved : goal.loop-event-preserved
loop-event-preserved c = grind (arith, common_steps)

pub returns : goal.returns
returns c = grind (arith, common_steps)
