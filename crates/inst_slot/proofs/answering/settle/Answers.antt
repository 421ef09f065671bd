use Rattle.std.proofs.Common.{rules, ◌≡◌, inr, List, Option, Some, None, refl, sym, ap, ◌∙◌, subst, append-nil}
use Rattle.inst_command.specs.declared.outcome.Outcome.{Outcome}
use Rattle.inst_journal.specs.declared.event.Event.{Event}
use Rattle.inst_journal.specs.declared.event.Event.TheVariants.{Booked}
use Rattle.inst_journal.specs.Sound.{Fits}
use Rattle.inst_ledger.specs.Book.{LedgerBook as Kept, ledger_with_event}
use Rattle.inst_slot.specs.declared.arrival.Arrival.{Arrival}
use Rattle.inst_slot.specs.inner.Answering.{book_with_spots, book_with_arrivals, IsOwnAt}
use Rattle.inst_slot.specs.Book.{place_at}
use Rattle.inst_slot.specs.Spots.{rows_of, arrivals_of}
use Rattle.inst_slot.specs.Asking.{Finds}
use Rattle.inst_slot.proofs.SlotMayDecideWhatIsAsked.{asked}
use Rattle.inst_slot.proofs.AnswersToDecisions.{settle_fits, settled_so, settle_own}
use Rattle.inst_slot.proofs.Spots.{spots_over, over_after}
use Rattle.inst_slot.proofs.answering.settle.Goals as goal

pub find-requires-clause-may : goal.find-requires-clause-may
find-requires-clause-may g c =
    let b = g.B.Board in
    (asked b.settings b.knows b.has_role c.args.board.now (book_with_spots c.args.ledger.now.book c.args.arrivals.now) c.args.ask.now.command (c.args.asked.now.place, c.args.asked.now.wish) c.requires.lawful c.requires.asking.is).may

pub returns-in_default-clause-settles : goal.returns-in_default-clause-settles
returns-in_default-clause-settles g c =
    let b = g.B.Board in
    let r = c.args.asked.now in
    let l = c.args.ledger.now in
    let A : List Arrival = arrivals_of (rows_of l.book.who l.book.events) c.args.arrivals.now in
    settled_so b.settings b.knows b.has_role c.args.board.now l A c.args.ask.now r c.requires.lawful c.requires.asking
    (b.settings c.args.board.now).margin b.stood b.stays c.find.new.board None c.pending.result c.find.new.ledger.book
    c.pending.ensures
    (c.find.ensures.book ∙ ap (λ (J : List Event). record l.book { events = J }) (sym (append-nil l.book.events)))
    (subst (λ (o : Option Outcome). Finds (b.settings c.args.board.now).margin b.knows b.has_role b.stood b.stays c.args.board.now r.place r.wish c.args.ask.now.at o c.find.new.board) c.in_default.is c.in_ok-decided.ensures.found)
    (book_with_spots c.find.new.ledger.book c.args.arrivals.now) (ap (λ (x : Kept). book_with_spots x c.args.arrivals.now) c.find.ensures.book ∙ sym (ap (λ (x : Kept). book_with_arrivals x A) c.find.ensures.book))

pub book-requires-clause-fits : goal.book-requires-clause-fits
book-requires-clause-fits g c =
    let b = g.B.Board in
    let r = c.args.asked.now in
    let o = c.in-Some.outcome in
    subst (λ (x : Kept). Fits x.settings x.who x.events (Booked r.found.from r.found.id o)) (sym c.find.ensures.book)
    (settle_fits b.settings b.knows b.has_role c.args.board.now c.args.ledger.now (arrivals_of (rows_of c.args.ledger.now.book.who c.args.ledger.now.book.events) c.args.arrivals.now) c.args.ask.now r c.requires.lawful c.requires.asking o)

pub returns-clause-settles : goal.returns-clause-settles
returns-clause-settles g c =
    let b = g.B.Board in
    let r = c.args.asked.now in
    let l = c.args.ledger.now in
    let A : List Arrival = arrivals_of (rows_of l.book.who l.book.events) c.args.arrivals.now in
    let o = c.in-Some.outcome in
    let is = c.in_ok-book.ensures.ok ∙ ap (λ (x : Kept). ledger_with_event x (Booked r.found.from r.found.id o)) c.find.ensures.book in
    settled_so b.settings b.knows b.has_role c.args.board.now l A c.args.ask.now r c.requires.lawful c.requires.asking
    (b.settings c.args.board.now).margin b.stood b.stays c.find.new.board (Some o) _ c.book.new.ledger.book
    refl
    is
    (subst (λ (d : Option Outcome). Finds (b.settings c.args.board.now).margin b.knows b.has_role b.stood b.stays c.args.board.now r.place r.wish c.args.ask.now.at d c.find.new.board) c.in-Some.is c.in_ok-decided.ensures.found)
    (book_with_spots c.book.new.ledger.book c.args.arrivals.now) (over_after l.book c.book.new.ledger.book (Booked r.found.from r.found.id o) c.args.arrivals.now is c.requires.spots ∙ sym (ap (λ (x : Kept). book_with_arrivals x A) is))

pub book-requires-clause-own : goal.book-requires-clause-own
book-requires-clause-own g c =
    let b = g.B.Board in
    let r = c.args.asked.now in
    let l = c.args.ledger.now in
    subst (λ (x : Kept). r.found.from ≡ x.who → IsOwnAt x r.found.id (place_at r.found.from r.place.index)) (sym c.find.ensures.book)
    (settle_own b.settings b.knows b.has_role c.args.board.now l (arrivals_of (rows_of l.book.who l.book.events) c.args.arrivals.now) c.args.ask.now r c.requires.lawful c.requires.asking c.requires.right.1)

pub returns-clause-spots : goal.returns-clause-spots
returns-clause-spots g c =
    let r = c.args.asked.now in
    let l = c.args.ledger.now in
    let e : Event = Booked r.found.from r.found.id c.in-Some.outcome in
    spots_over l.book c.book.new.ledger.book e c.args.arrivals.now (c.in_ok-book.ensures.ok ∙ ap (λ (x : Kept). ledger_with_event x e) c.find.ensures.book) c.requires.spots

pub returns-in_err-decided-clause-settles : goal.returns-in_err-decided-clause-settles
returns-in_err-decided-clause-settles g c = inr (search rules, ap (λ (x : Kept). book_with_spots x c.args.arrivals.now) c.find.ensures.book, search rules)
