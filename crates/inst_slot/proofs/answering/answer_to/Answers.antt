use Rattle.std.proofs.Common.{◌≡◌, ℕ, List, Option, Some, None, sym, ap, ◌∙◌, subst}
use Rattle.std.proofs.lemmas.Bool.{true≢false}
use Rattle.inst_command.specs.declared.outcome.Outcome.{Outcome}
use Rattle.inst_journal.specs.Booked.{booked}
use Rattle.inst_transfers.specs.Held.{found_at}
use Rattle.inst_transfers.specs.State.{outcome_in}
use Rattle.inst_slot.specs.declared.answering.Request.{Request}
use Rattle.inst_slot.specs.inner.Answering.{GivesRequest}
use Rattle.inst_slot.specs.Asking.{wish_for}
use Rattle.inst_slot.specs.Book.{arrived_at}
use Rattle.inst_slot.specs.Spots.{rows_of, arrivals_of}
use Rattle.inst_slot.proofs.Requests.{none_is, wish_none}
use Rattle.inst_slot.proofs.Spots.{unknown_here}
use Rattle.inst_slot.proofs.answering.answer_to.Goals as goal

pub returns-in_err-found : goal.returns-in_err-found
returns-in_err-found c =
    let l = c.args.ledger.now in
    let id = c.args.id.now in
    let rows = rows_of l.book.who l.book.events in
    let known = booked c.args.from id l.book.events in
    let at = arrived_at c.args.from id (arrivals_of rows c.args.arrivals.now) in
    subst (λ (r : Option Request). GivesRequest l (wish_for c.args.wish c.args.from known at) id r) (sym c.from_residual.ensures)
    (wish_none c.args.wish c.args.from known at (unknown_here l.table.entries rows c.args.arrivals.now c.in_err-found.ensures.right.rows c.requires.spots c.args.from id c.in_err-found.ensures.found))

pub returns-in_err-index : goal.returns-in_err-index
returns-in_err-index c =
    let l = c.args.ledger.now in
    let id = c.args.id.now in
    let A = arrivals_of (rows_of l.book.who l.book.events) c.args.arrivals.now in
    let f = c.in_ok-found.found in
    let found = c.in_ok-found.ensures.found in
    let at : arrived_at c.args.from id A ≡ None = ap (λ (n : ℕ). arrived_at n id A) (sym found.0) ∙ ap (λ (i : List ℕ). arrived_at f.from i A) (sym found.1) ∙ sym c.arrived_at.ensures ∙ c.in_err-index.was in
    subst (λ (r : Option Request). GivesRequest l (wish_for c.args.wish c.args.from (booked c.args.from id l.book.events) (arrived_at c.args.from id A)) id r) (sym c.from_residual-in_err-index.ensures)
    (wish_none c.args.wish c.args.from (booked c.args.from id l.book.events) (arrived_at c.args.from id A) at)

pub returns : goal.returns
returns c =
    let l = c.args.ledger.now in
    let from = c.args.from in
    let id = c.args.id.now in
    let A = arrivals_of (rows_of l.book.who l.book.events) c.args.arrivals.now in
    let f = c.in_ok-found.found in
    let found = c.in_ok-found.ensures.found in
    let there = ap (λ (n : ℕ). found_at l.table.entries (n, id)) (sym found.0) ∙ ap (λ (i : List ℕ). found_at l.table.entries (f.from, i)) (sym found.1) ∙ found.2.transfer in
    let new : booked from id l.book.events ≡ None = sym (c.in_ok-found.ensures.right.booked (from, id)) ∙ ap outcome_in there ∙ none_is f.transfer.outcome (sym c.is_some.ensures ∙ c.if-is_some.false) in
    let at : arrived_at from id A ≡ Some c.in_ok-index.index = ap (λ (n : ℕ). arrived_at n id A) (sym found.0) ∙ ap (λ (i : List ℕ). arrived_at f.from i A) (sym found.1) ∙ sym c.arrived_at.ensures ∙ c.in_ok-index.was in
    record {
      is = ap (λ (o : Option Outcome). wish_for c.args.wish from o (arrived_at from id A)) new ∙ ap (wish_for c.args.wish from None) at;
      there = found.2;
      owner = found.0;
      id_is = found.1;
      expiring = λ h. absurd (true≢false (sym h ∙ c.requires.answers));
    }
