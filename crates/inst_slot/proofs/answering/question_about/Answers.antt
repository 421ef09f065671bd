use Rattle.std.proofs.Common.{◌≡◌, ℕ, List, Option, Some, None, sym, ap, ◌∙◌, subst}
use Rattle.std.specs.Prelude.{slice_get, position}
use Rattle.inst_journal.specs.Booked.{takes, booked}
use Rattle.inst_journal.specs.Opened.{live_taken}
use Rattle.inst_ledger.specs.Right.{own_ids}
use Rattle.inst_transfers.specs.Held.{state_in, found_at}
use Rattle.inst_board.specs.declared.wish.Wish.TheVariants.{Expire}
use Rattle.inst_slot.specs.declared.answering.Request.{Request}
use Rattle.inst_slot.specs.inner.Answering.{GivesRequest}
use Rattle.inst_slot.specs.Asking.{wish_for}
use Rattle.inst_slot.specs.Book.{place_at}
use Rattle.inst_slot.proofs.Requests.{unknown_question, known_question, own_position_is, wish_none}
use Rattle.inst_slot.proofs.answering.question_about.Goals as goal

pub returns-in_err-found : goal.returns-in_err-found
returns-in_err-found c =
    let kept = c.args.ledger.now.book in
    let id = c.args.id.now in
    let none = ap (λ (n : ℕ). found_at c.args.ledger.now.table.entries (n, id)) (sym c.who-owner.ensures) ∙ c.in_err-found.ensures.found in
    subst (λ (r : Option Request). GivesRequest c.args.ledger.now (wish_for Expire kept.who (booked kept.who id kept.events) (position (takes id) (live_taken kept.who kept.events))) id r) (sym c.from_residual.ensures)
    (unknown_question kept.who kept.events (state_in c.args.ledger.now.table) id c.in_err-found.ensures.right none)

pub returns-in_err-index : goal.returns-in_err-index
returns-in_err-index c =
    let kept = c.args.ledger.now.book in
    let id = c.args.id.now in
    let found = c.in_ok-found.ensures.found in
    let at = own_position_is kept.who kept.events id None
    (λ k there. let was : c.found_index.result ≡ None = c.in_err-index.was in let at : c.found_index.result ≡ Some k = c.found_index.ensures.at k (there ∙ ap (λ (x : List ℕ). Some x) (sym found.1)) in sym was ∙ at)
    (λ k e. let no : ⊥ = cc in absurd no) in
    subst (λ (r : Option Request). GivesRequest c.args.ledger.now (wish_for Expire kept.who (booked kept.who id kept.events) (position (takes id) (live_taken kept.who kept.events))) id r) (sym c.from_residual-in_err-index.ensures)
    (wish_none Expire kept.who (booked kept.who id kept.events) (position (takes id) (live_taken kept.who kept.events)) at)

pub returns : goal.returns
returns c =
    let l = c.args.ledger.now in
    let kept = l.book in
    let id = c.args.id.now in
    let f = c.in_ok-found.found in
    let found = c.in_ok-found.ensures.found in
    let named : f.id ≡ id = found.1 in
    let mine : f.from ≡ kept.who = found.0 ∙ c.who-owner.ensures in
    let there = ap (λ (n : ℕ). found_at l.table.entries (n, id)) (sym mine) ∙ ap (λ (i : List ℕ). found_at l.table.entries (f.from, i)) (sym named) ∙ found.2.transfer in
    let none = sym c.is_some.ensures ∙ c.if-is_some.false in
    let index = c.in_ok-index.index in
    let was : c.found_index.result ≡ Some index = c.in_ok-index.was in
    let place : (k : ℕ) → slice_get (own_ids kept.who kept.events) k ≡ Some f.id → Some index ≡ Some k = λ k here. sym was ∙ c.found_index.ensures.at k here in
    let at = own_position_is kept.who kept.events id (Some index)
    (λ k here. place k (here ∙ ap (λ (x : List ℕ). Some x) (sym named)))
    (λ k e. c.found_index.ensures.only k (was ∙ e) ∙ ap (λ (x : List ℕ). Some x) named) in
    record {
      is = known_question kept.who kept.events (state_in l.table) id f.transfer index c.in_ok-found.ensures.right there none at ∙ ap (λ (n : ℕ). Some (place_at n index, Expire)) (sym c.who-owner.ensures);
      there = found.2;
      owner = found.0;
      id_is = named;
      expiring = λ h. record {
        own = c.who-owner.ensures;
        at = c.found_index.ensures.only index was ∙ ap (λ (x : List ℕ). Some x) named;
        only = λ k here. let both = place k (here ∙ ap (λ (x : List ℕ). Some x) (sym named)) in cc;
      };
    }
