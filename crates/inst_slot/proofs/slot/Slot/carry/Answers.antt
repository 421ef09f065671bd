use Rattle.std.proofs.Common.{◌≡◌, sym, subst}
use Rattle.inst_journal.specs.Opened.{carried}
use Rattle.inst_journal.proofs.EventsCarriedOverOpening.{carried_opened}
use Rattle.inst_ledger.specs.Book.{LedgerBook}
use Rattle.inst_slot.proofs.slot.Slot.carry.Goals as goal

pub carried_over-requires : goal.carried_over-requires
carried_over-requires c = subst (λ (x : LedgerBook). carried x.events ≡ x.events) (sym c.in_ok-ledger.ensures.ok) (carried_opened c.args.journal.now.events)
