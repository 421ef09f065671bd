use Rattle.std.proofs.Common.{rules, inl, inr, Some, None, ◌∙◌, sym, ap, subst, refl, ℕ}
use Rattle.inst_board.specs.declared.wish.Wish.TheVariants.{Expire}
use Rattle.inst_board.specs.Learning.{MayDecide}
use Rattle.inst_journal.specs.declared.event.Event.TheVariants.{Booked}
use Rattle.inst_journal.specs.Sound.{Fits}
use Rattle.inst_ledger.specs.Book.{LedgerBook as Kept, ledger_with_event as keeping}
use Rattle.inst_slot.specs.inner.Answering.{book_with_spots, IsOwnAt}
use Rattle.inst_slot.specs.Book.{Book, place_at}
use Rattle.inst_slot.specs.Spots.{rows_of, arrivals_of}
use Rattle.inst_slot.specs.Telling.{with_event}
use Rattle.inst_slot.proofs.Bookings.{own_taken_at}
use Rattle.inst_slot.proofs.SlotMayDecideWhatIsAsked.{may_expire}
use Rattle.inst_slot.proofs.ResolutionFitsBooks.{booking_fits}
use Rattle.inst_slot.proofs.DecisionKeepsLawfulBoard.{unbooked_is}
use Rattle.inst_slot.proofs.Spots.{spots_over, over_after}
use Rattle.inst_slot.proofs.slot.expiring.let_expire.Goals as goal

pub find-requires-clause-may : goal.find-requires-clause-may
find-requires-clause-may g c =
    let b = g.B.Board in
    let kept = c.args.ledger.now.book in
    let f = c.args.found.now in
    let book : Book = book_with_spots kept c.args.arrivals.now in
    let u = unbooked_is book c.args.index f.id (c.requires.unbooked.is (arrivals_of (rows_of kept.who kept.events) c.args.arrivals.now)) in
    subst (λ (n : ℕ). MayDecide b.knows b.has_role c.args.board.now (place_at n c.args.index) Expire) (sym c.who.ensures)
    (may_expire b.settings b.knows b.has_role c.args.board.now book f.id c.args.index c.requires.lawful u.at)

pub book-requires-clause-own : goal.book-requires-clause-own
book-requires-clause-own g c = λ mine.
    let kept = c.args.ledger.now.book in
    let f = c.args.found.now in
    let at = (unbooked_is (book_with_spots kept c.args.arrivals.now) c.args.index f.id (c.requires.unbooked.is (arrivals_of (rows_of kept.who kept.events) c.args.arrivals.now))).at in
    subst (λ (x : Kept). IsOwnAt x f.id (place_at f.from c.args.index)) (sym c.find.ensures.book)
    (subst (λ (n : ℕ). IsOwnAt kept f.id (place_at n c.args.index)) (sym c.requires.unbooked.own)
    (own_taken_at kept f.id c.args.index at.to at.cents at.stamp c.requires.right.1 at.there))

pub book-requires-clause-fits : goal.book-requires-clause-fits
book-requires-clause-fits g c =
    let b = g.B.Board in
    let kept = c.args.ledger.now.book in
    let f = c.args.found.now in
    let o = c.in-Some.outcome in
    let book : Book = book_with_spots kept c.args.arrivals.now in
    let u = unbooked_is book c.args.index f.id (c.requires.unbooked.is (arrivals_of (rows_of kept.who kept.events) c.args.arrivals.now)) in
    subst (λ (x : Kept). Fits x.settings x.who x.events (Booked f.from f.id o)) (sym c.find.ensures.book)
    (subst (λ (n : ℕ). Fits kept.settings kept.who kept.events (Booked n f.id o)) (sym c.requires.unbooked.own)
    (booking_fits b.settings b.knows b.has_role c.args.board.now book kept.who f.id c.args.index o c.requires.lawful (inl (refl, u.at)) u.none))

pub returns-in_err-find-clause-expires : goal.returns-in_err-find-clause-expires
returns-in_err-find-clause-expires g c = inr (search rules, ap (λ (x : Kept). book_with_spots x c.args.arrivals.now) c.find.ensures.book, search rules)

pub returns-in-None-clause-expires : goal.returns-in-None-clause-expires
returns-in-None-clause-expires g c = inl (None, refl, ap (λ (x : Kept). book_with_spots x c.args.arrivals.now) c.find.ensures.book, search rules)

pub returns-in_ok-book-in-Some-clause-expires : goal.returns-in_ok-book-in-Some-clause-expires
returns-in_ok-book-in-Some-clause-expires g c =
    let kept = c.args.ledger.now.book in
    let f = c.args.found.now in
    let o = c.in-Some.outcome in
    let S = c.args.arrivals.now in
    let book : Book = book_with_spots kept S in
    let is = c.in_ok-book-in-Some.ensures.ok ∙ ap (λ (x : Kept). keeping x (Booked f.from f.id o)) c.find.ensures.book in
    inl (
      Some o,
      refl,
      over_after kept c.book.new.ledger.book (Booked f.from f.id o) S is c.requires.spots ∙ ap (λ (n : ℕ). with_event book (Some (Booked n f.id o))) c.requires.unbooked.own,
      search rules,
    )

pub returns-in_ok-book-in-Some-clause-spots : goal.returns-in_ok-book-in-Some-clause-spots
returns-in_ok-book-in-Some-clause-spots g c =
    let kept = c.args.ledger.now.book in
    let f = c.args.found.now in
    let o = c.in-Some.outcome in
    spots_over kept c.book.new.ledger.book (Booked f.from f.id o) c.args.arrivals.now (c.in_ok-book-in-Some.ensures.ok ∙ ap (λ (x : Kept). keeping x (Booked f.from f.id o)) c.find.ensures.book) c.requires.spots
