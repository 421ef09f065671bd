use Rattle.std.proofs.Common.{◌≡◌, ◌+◌, ◌-◌, ap, ◌∙◌, arith}
use Rattle.inst_journal.specs.Money.{position}
use Rattle.inst_ledger.specs.Book.{BookAndRoom}
use Rattle.inst_ledger.proofs.LedgerStaysRight.{position_small, sums_small, within}
use Rattle.inst_ledger.proofs.ledger.Ledger.position.Goals as goal

pub overflow_add-result : goal.overflow_add-result
overflow_add-result c = let i = c.self.inside in omega (arith, sums_small i.settings.value i.who i.journal.events i.totals i.table _ i.fundings i.inbox.items i.read c.self.invariant.beside, c.credits.ensures)

pub overflow_sub-result : goal.overflow_sub-result
overflow_sub-result c = let i = c.self.inside in omega (arith, within i.settings.value i.who i.journal.events i.totals i.table _ i.fundings i.inbox.items i.read c.self.invariant.beside, c.credits.ensures)

pub overflow_sub-result-2 : goal.overflow_sub-result-2
overflow_sub-result-2 c = let i = c.self.inside in omega (arith, within i.settings.value i.who i.journal.events i.totals i.table _ i.fundings i.inbox.items i.read c.self.invariant.beside, c.credits.ensures, c.debits.ensures)

pub returns-clause-value : goal.returns-clause-value
returns-clause-value c =
    let i = c.self.inside in
    let b = c.self.invariant.beside in
    let here : i.totals.funded + c.credits.result - i.totals.defunded - c.debits.result ≡ position i.journal.events = omega (arith, b.funded, b.defunded, b.right.credits, b.right.debits, c.credits.ensures, c.debits.ensures) in
    here ∙ ap (λ (b : BookAndRoom). position b.book.events) c.self.view_is

pub returns-clause-within : goal.returns-clause-within
returns-clause-within c =
    let i = c.self.inside in
    let b = c.self.invariant.beside in
    omega (arith, b.funded, b.defunded, b.right.credits, b.right.debits, c.credits.ensures, c.debits.ensures, position_small i.settings.value i.who i.journal.events i.totals i.table _ i.fundings i.inbox.items i.read c.self.invariant.beside)
