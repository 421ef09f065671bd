use Rattle.std.proofs.Common.{◌≡◌, ℕ, List, Option, Some, None, IfNone, IfSome, sym, ap, ◌∙◌}
use Rattle.std.specs.Prelude.{slice_get}
use Rattle.inst_transfers.specs.declared.transfer.Found.{Found}
use Rattle.inst_transfers.specs.Held.{Held, state_in, FindsOwn}
use Rattle.inst_ledger.specs.Book.{BookAndRoom}
use Rattle.inst_ledger.specs.Right.{own_ids}
use Rattle.inst_ledger.proofs.ledger.Ledger.own_found.Goals as goal

absent : (held : Held) (index : ℕ) (ids : List (List ℕ)) (r : Option Found) → (state_in held).own ≡ ids → FindsOwn held index r → IfNone r (slice_get ids index ≡ None)
absent held index ids None same found = sym (ap (λ (l : List (List ℕ)). slice_get l index) same) ∙ found
absent held index ids (Some f) same found = tt

named : (held : Held) (index : ℕ) (ids : List (List ℕ)) (r : Option Found) → (state_in held).own ≡ ids → FindsOwn held index r → IfSome r (λ f. slice_get ids index ≡ Some f.id)
named held index ids None same found = tt
named held index ids (Some f) same found = sym (ap (λ (l : List (List ℕ)). slice_get l index) same) ∙ found.1

pub returns-clause-none : goal.returns-clause-none
returns-clause-none c =
    let i = c.self.inside in
    absent i.table c.args.index (own_ids c.args.self.now.book.who c.args.self.now.book.events) c.own_at.result
    (c.self.invariant.beside.right.own ∙ ap (λ (b : BookAndRoom). own_ids b.book.who b.book.events) c.self.view_is) c.own_at.ensures

pub returns-clause-at : goal.returns-clause-at
returns-clause-at c =
    let i = c.self.inside in
    named i.table c.args.index (own_ids c.args.self.now.book.who c.args.self.now.book.events) c.own_at.result
    (c.self.invariant.beside.right.own ∙ ap (λ (b : BookAndRoom). own_ids b.book.who b.book.events) c.self.view_is) c.own_at.ensures
