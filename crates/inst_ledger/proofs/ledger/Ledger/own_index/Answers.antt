use Rattle.std.proofs.Common.{ℕ, List, Option, Some, is_some, sym, ap, ◌∙◌, arith}
use Rattle.std.specs.Prelude.{slice_get}
use Rattle.std.proofs.lemmas.Bool.{true≢false}
use Rattle.inst_journal.specs.Opened.{carried}
use Rattle.inst_transfers.specs.declared.transfer.Transfer.{Transfer}
use Rattle.inst_ledger.specs.Book.{BookAndRoom}
use Rattle.inst_ledger.specs.Right.{own_ids, sending_in}
use Rattle.inst_ledger.proofs.LedgerStaysRight.{few_live}
use Rattle.inst_ledger.proofs.OwnIds.{own_taken_only}
use Rattle.inst_ledger.proofs.Tables.{taken_found}
use Rattle.inst_ledger.proofs.ledger.Ledger.own_index.Goals as goal

pub returns-in_err-found-clause-at : goal.returns-in_err-found-clause-at
returns-in_err-found-clause-at c = λ k there.
    let i = c.self.inside in
    let id = c.args.id.now in
    let here = ap (λ (b : BookAndRoom). slice_get (own_ids b.book.who b.book.events) k) c.self.view_is ∙ there in
    let taken = own_taken_only i.who (carried i.journal.events) id i.journal.events k here in
    absurd (true≢false (sym taken ∙ taken_found id i.journal.events ∙ ap is_some (sym (c.self.invariant.beside.right.taken id)) ∙ ap (λ (o : Option Transfer). is_some (sending_in o)) c.in_err-found.ensures))

pub returns-in_err-index-clause-at : goal.returns-in_err-index-clause-at
returns-in_err-index-clause-at c = λ k there.
    let i = c.self.inside in
    let here = ap (λ (l : List (List ℕ)). slice_get l k) c.self.invariant.beside.right.own ∙ ap (λ (b : BookAndRoom). slice_get (own_ids b.book.who b.book.events) k) c.self.view_is ∙ there in
    c.from_residual-in_err-index.ensures ∙ c.in_err-index.ensures.at k (here ∙ ap (λ (x : List ℕ). Some x) (sym c.in_ok-found.ensures.1))

pub overflow_cast-result : goal.overflow_cast-result
overflow_cast-result c =
    let i = c.self.inside in
    omega (arith, c.in_ok-index.ensures.within, few_live i.settings.value i.who i.journal.events i.totals i.table _ i.fundings i.inbox.items i.read c.self.invariant.beside)

pub returns-clause-at : goal.returns-clause-at
returns-clause-at c = λ k there.
    let i = c.self.inside in
    let here = ap (λ (l : List (List ℕ)). slice_get l k) c.self.invariant.beside.right.own ∙ ap (λ (b : BookAndRoom). slice_get (own_ids b.book.who b.book.events) k) c.self.view_is ∙ there in
    c.in_ok-index.ensures.at k (here ∙ ap (λ (x : List ℕ). Some x) (sym c.in_ok-found.ensures.1))

pub returns-clause-only : goal.returns-clause-only
returns-clause-only c = λ k same.
    let i = c.self.inside in
    let here = ap (λ (l : List (List ℕ)). slice_get l k) c.self.invariant.beside.right.own ∙ ap (λ (b : BookAndRoom). slice_get (own_ids b.book.who b.book.events) k) c.self.view_is in
    sym here ∙ c.in_ok-index.ensures.only k same ∙ ap (λ (x : List ℕ). Some x) c.in_ok-found.ensures.1
