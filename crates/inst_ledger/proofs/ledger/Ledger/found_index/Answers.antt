use Rattle.std.proofs.Common.{ℕ, List, sym, ap, ◌∙◌, arith}
use Rattle.std.specs.Prelude.{slice_get}
use Rattle.inst_ledger.specs.Book.{BookAndRoom}
use Rattle.inst_ledger.specs.Right.{own_ids}
use Rattle.inst_ledger.proofs.LedgerStaysRight.{few_live}
use Rattle.inst_ledger.proofs.ledger.Ledger.found_index.Goals as goal

pub overflow_cast-result : goal.overflow_cast-result
overflow_cast-result c =
    let i = c.self.inside in
    omega (arith, c.in_ok-index.ensures.within, few_live i.settings.value i.who i.journal.events i.totals i.table _ i.fundings i.inbox.items i.read c.self.invariant.beside)

pub returns-in_err-index-clause-at : goal.returns-in_err-index-clause-at
returns-in_err-index-clause-at c = λ k there.
    let i = c.self.inside in
    let here = ap (λ (l : List (List ℕ)). slice_get l k) c.self.invariant.beside.right.own ∙ ap (λ (b : BookAndRoom). slice_get (own_ids b.book.who b.book.events) k) c.self.view_is ∙ there in
    c.from_residual.ensures ∙ c.in_err-index.ensures.at k here

pub returns-clause-at : goal.returns-clause-at
returns-clause-at c = λ k there.
    let i = c.self.inside in
    let here = ap (λ (l : List (List ℕ)). slice_get l k) c.self.invariant.beside.right.own ∙ ap (λ (b : BookAndRoom). slice_get (own_ids b.book.who b.book.events) k) c.self.view_is ∙ there in
    c.in_ok-index.ensures.at k here

pub returns-clause-only : goal.returns-clause-only
returns-clause-only c = λ k same.
    let i = c.self.inside in
    let here = ap (λ (l : List (List ℕ)). slice_get l k) c.self.invariant.beside.right.own ∙ ap (λ (b : BookAndRoom). slice_get (own_ids b.book.who b.book.events) k) c.self.view_is in
    sym here ∙ c.in_ok-index.ensures.only k same
