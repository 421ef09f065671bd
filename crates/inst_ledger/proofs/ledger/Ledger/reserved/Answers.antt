use Rattle.std.proofs.Common.{arith, ◌∙◌, ap}
use Rattle.inst_journal.specs.Money.{reserved}
use Rattle.inst_journal.proofs.PaidAndReservedIsCovered.{covered}
use Rattle.inst_ledger.specs.Book.{BookAndRoom}
use Rattle.inst_ledger.proofs.LedgerStaysRight.{position_small}
use Rattle.inst_ledger.proofs.ledger.Ledger.reserved.Goals as goal

pub returns-clause-value : goal.returns-clause-value
returns-clause-value c = c.reserved.ensures ∙ c.self.invariant.beside.right.reserved ∙ ap (λ (b : BookAndRoom). reserved b.book.events) c.self.view_is

pub returns-clause-within : goal.returns-clause-within
returns-clause-within c =
    let i = c.self.inside in
    omega (arith, c.reserved.ensures, c.self.invariant.beside.right.reserved, covered i.settings.value i.who i.journal.events c.self.invariant.beside.sound, position_small i.settings.value i.who i.journal.events i.totals i.table _ i.fundings i.inbox.items i.read c.self.invariant.beside)
