use Rattle.std.proofs.Common.{rules, refl, inl, inr, is_some, Some, Ok, ◌∙◌, sym, ap, subst, ℕ}
use Rattle.inst_board.specs.declared.about.About.TheVariants.{HasTerms}
use Rattle.inst_board.specs.Standing.{about}
use Rattle.inst_journal.specs.declared.event.Event.TheVariants.{Booked}
use Rattle.inst_journal.specs.Booked.{booked}
use Rattle.inst_journal.specs.Sound.{Fits}
use Rattle.inst_ledger.specs.Book.{LedgerBook as Kept}
use Rattle.inst_slot.specs.inner.Answering.{book_with_spots, IsOwnAt}
use Rattle.inst_slot.specs.Book.{Book, place_at, terms_to}
use Rattle.inst_slot.specs.Spots.{rows_of, arrivals_of}
use Rattle.inst_slot.specs.Telling.{with_event}
use Rattle.inst_slot.proofs.Bookings.{own_taken_at}
use Rattle.inst_slot.proofs.ResolutionsOfGlances.{unused_no_resolution, pending_no_resolution, own_resolution, own_shown}
use Rattle.inst_slot.proofs.ResolutionFitsBooks.{booking_fits}
use Rattle.inst_slot.proofs.DecisionKeepsLawfulBoard.{unbooked_is}
use Rattle.inst_slot.proofs.Spots.{spots_over, over_after}
use Rattle.inst_slot.proofs.slot.learning.learn_own.Goals as goal

pub place_state-requires : goal.place_state-requires
place_state-requires g c =
    let b = g.B.Board in
    let kept = c.args.ledger.now.book in
    let f = c.args.found.now in
    let book : Book = book_with_spots kept c.args.arrivals.now in
    let at = (unbooked_is book c.args.place.index f.id (c.requires.unbooked.is (arrivals_of (rows_of kept.who kept.events) c.args.arrivals.now))).at in
    let terms = terms_to at.to at.cents f.id in
    let known = c.requires.lawful.taken_known c.args.place.index f.id at.to at.cents at.stamp at.there in
    record { terms = (terms, subst (λ (n : ℕ). b.knows c.args.board.now (about (place_at n c.args.place.index) (HasTerms terms))) (sym c.requires.owner) known.terms) }

pub book-requires-clause-own : goal.book-requires-clause-own
book-requires-clause-own g c = λ mine.
    let kept = c.args.ledger.now.book in
    let f = c.args.found.now in
    let at = (unbooked_is (book_with_spots kept c.args.arrivals.now) c.args.place.index f.id (c.requires.unbooked.is (arrivals_of (rows_of kept.who kept.events) c.args.arrivals.now))).at in
    subst (λ (n : ℕ). IsOwnAt kept f.id (place_at n c.args.place.index)) (sym c.requires.unbooked.own)
    (own_taken_at kept f.id c.args.place.index at.to at.cents at.stamp c.requires.right.1 at.there)

pub book-requires-clause-fits : goal.book-requires-clause-fits
book-requires-clause-fits g c =
    let b = g.B.Board in
    let kept = c.args.ledger.now.book in
    let f = c.args.found.now in
    let o = c.in-Decided.outcome in
    let book : Book = book_with_spots kept c.args.arrivals.now in
    let u = unbooked_is book c.args.place.index f.id (c.requires.unbooked.is (arrivals_of (rows_of kept.who kept.events) c.args.arrivals.now)) in
    subst (λ (n : ℕ). Fits kept.settings kept.who kept.events (Booked n f.id o)) (sym c.requires.unbooked.own)
    (booking_fits b.settings b.knows b.has_role c.args.board.now book kept.who f.id c.args.place.index o c.requires.lawful (inl (refl, u.at)) u.none)

pub returns-in-Unused-clause-learns : goal.returns-in-Unused-clause-learns
returns-in-Unused-clause-learns g c =
    let book : Book = book_with_spots c.args.ledger.now.book c.args.arrivals.now in
    let l = c.place_state.ensures.look in
    let none = unused_no_resolution book c.args.place l.0 (sym c.in-Unused.is ∙ l.2) in
    (l.0, l.1, inl (ap (λ o. Ok (is_some o)) (sym none), ap (with_event book) (sym none)))

pub returns-in-Pending-clause-learns : goal.returns-in-Pending-clause-learns
returns-in-Pending-clause-learns g c =
    let book : Book = book_with_spots c.args.ledger.now.book c.args.arrivals.now in
    let l = c.place_state.ensures.look in
    let none = pending_no_resolution book c.args.place l.0 c.in-Pending.field-0 (sym c.in-Pending.is ∙ l.2) in
    (l.0, l.1, inl (ap (λ o. Ok (is_some o)) (sym none), ap (with_event book) (sym none)))

pub returns-in_err-book-in-Decided-clause-learns : goal.returns-in_err-book-in-Decided-clause-learns
returns-in_err-book-in-Decided-clause-learns g c =
    let b = g.B.Board in
    let kept = c.args.ledger.now.book in
    let f = c.args.found.now in
    let k = c.args.place in
    let book : Book = book_with_spots kept c.args.arrivals.now in
    let u = unbooked_is book k.index f.id (c.requires.unbooked.is (arrivals_of (rows_of kept.who kept.events) c.args.arrivals.now)) in
    let l = c.place_state.ensures.look in
    let none = ap (λ (n : ℕ). booked n f.id book.events) c.requires.owner ∙ u.none in
    let shown = own_shown b.settings b.knows b.has_role (b.settings c.args.board.now).margin b.stood c.args.board.now c.place_state.new.self k l.0 l.1 book c.requires.lawful f.id c.requires.owner u.at in
    let is = own_resolution book k l.0 f.id c.in-Decided.outcome c.requires.owner none shown (sym c.in-Decided.is ∙ l.2) in
    (l.0, l.1, inr (search rules, ap (λ (x : Kept). book_with_spots x c.args.arrivals.now) c.in_err-book-in-Decided.ensures.err, ap is_some is))

pub returns-in_ok-book-in-Decided-clause-learns : goal.returns-in_ok-book-in-Decided-clause-learns
returns-in_ok-book-in-Decided-clause-learns g c =
    let b = g.B.Board in
    let kept = c.args.ledger.now.book in
    let f = c.args.found.now in
    let k = c.args.place in
    let o = c.in-Decided.outcome in
    let S = c.args.arrivals.now in
    let book : Book = book_with_spots kept S in
    let u = unbooked_is book k.index f.id (c.requires.unbooked.is (arrivals_of (rows_of kept.who kept.events) S)) in
    let l = c.place_state.ensures.look in
    let none = ap (λ (n : ℕ). booked n f.id book.events) c.requires.owner ∙ u.none in
    let shown = own_shown b.settings b.knows b.has_role (b.settings c.args.board.now).margin b.stood c.args.board.now c.place_state.new.self k l.0 l.1 book c.requires.lawful f.id c.requires.owner u.at in
    let is = own_resolution book k l.0 f.id o c.requires.owner none shown (sym c.in-Decided.is ∙ l.2) in
    let new = over_after kept c.book.new.ledger.book (Booked f.from f.id o) S c.in_ok-book-in-Decided.ensures.ok c.requires.spots in (
      l.0,
      l.1,
      inl (
        ap (λ x. Ok (is_some x)) (sym is),
        new ∙ ap (λ (n : ℕ). with_event book (Some (Booked n f.id o))) (c.requires.unbooked.own ∙ sym c.requires.owner) ∙ ap (with_event book) (sym is),
      ),
    )

pub returns-in_ok-book-in-Decided-clause-spots : goal.returns-in_ok-book-in-Decided-clause-spots
returns-in_ok-book-in-Decided-clause-spots g c =
    let kept = c.args.ledger.now.book in
    let f = c.args.found.now in
    spots_over kept c.book.new.ledger.book (Booked f.from f.id c.in-Decided.outcome) c.args.arrivals.now c.in_ok-book-in-Decided.ensures.ok c.requires.spots
