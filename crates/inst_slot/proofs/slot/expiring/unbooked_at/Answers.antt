use Rattle.std.proofs.Common.{◌≡◌, ◌∙◌, refl, sym, ap, ℕ, true, false}
use Rattle.inst_journal.specs.Booked.{booked}
use Rattle.inst_transfers.specs.State.{outcome_in}
use Rattle.inst_transfers.specs.Held.{found_at}
use Rattle.inst_slot.specs.inner.Answering.{book_with_arrivals}
use Rattle.inst_ledger.specs.Right.{own_ids}
use Rattle.inst_slot.proofs.OwnIds.{one_there}
use Rattle.inst_slot.proofs.slot.expiring.unbooked_at.Goals as goal

pub returns-then-is_some : goal.returns-then-is_some
returns-then-is_some c = λ arrivals.
    let l = c.args.ledger.now in
    let f = c.in_ok-found.found in
    let e = c.in_ok-found.ensures in
    let there = ap (λ (n : ℕ). found_at l.table.entries (n, f.id)) (sym e.found.0) ∙ e.found.1.transfer in
    let known : f.transfer.outcome ≡ booked l.book.who f.id l.book.events = sym (ap outcome_in there) ∙ e.right.booked (l.book.who, f.id) in
    one_there (book_with_arrivals l.book arrivals) (own_ids l.book.who l.book.events) c.args.index f.id f.transfer.outcome true refl e.at known (sym c.is_some.ensures ∙ c.if-is_some.true)

pub returns : goal.returns
returns c =
    let l = c.args.ledger.now in
    let f = c.in_ok-found.found in
    let e = c.in_ok-found.ensures in
    let there = ap (λ (n : ℕ). found_at l.table.entries (n, f.id)) (sym e.found.0) ∙ e.found.1.transfer in
    let known : f.transfer.outcome ≡ booked l.book.who f.id l.book.events = sym (ap outcome_in there) ∙ e.right.booked (l.book.who, f.id) in
    record {
      is = λ arrivals. one_there (book_with_arrivals l.book arrivals) (own_ids l.book.who l.book.events) c.args.index f.id f.transfer.outcome false refl e.at known (sym c.is_some.ensures ∙ c.if-is_some.false);
      own = e.found.0;
      there = e.found.1;
    }
