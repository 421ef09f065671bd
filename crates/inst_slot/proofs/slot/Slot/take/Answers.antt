use Rattle.std.proofs.Common.{◌≡◌, ◌∙◌, ◌++◌, ◌∷◌, [], ℕ, length, arith, refl, sym, ap, subst}
use Rattle.inst_due.specs.Due.{Adds}
use Rattle.std.proofs.lemmas.List.{length-map}
use Rattle.inst_board.specs.declared.about.About.TheVariants.{Opened}
use Rattle.inst_board.specs.Standing.{about, pending}
use Rattle.inst_board.specs.Learning.{Learns}
use Rattle.inst_base.specs.TimeLimit.{deadline_of}
use Rattle.inst_journal.specs.Opened.{live_taken, live_submissions}
use Rattle.inst_journal.specs.declared.event.Event.{Event}
use Rattle.inst_journal.specs.Sound.{Fits}
use Rattle.inst_ledger.specs.Book.{LedgerBook as Kept, ledger_with_event, submission_event}
use Rattle.inst_slot.specs.Book.{Book, place_at, terms_to}
use Rattle.inst_slot.specs.inner.Answering.{book_with_spots}
use Rattle.inst_slot.specs.Waiting.{deadline_in}
use Rattle.inst_slot.proofs.CommandsThatDecideNothing.{next_index, next_unused}
use Rattle.inst_slot.proofs.OwnIds.{takes_over}
use Rattle.inst_slot.proofs.RefusalsChangeNothing.{on_err}
use Rattle.inst_slot.proofs.Spots.{spots_over, over_after}
use Rattle.inst_slot.proofs.slot.Slot.take.Goals as goal

-- the event is kept after room was made
in_room : {old room new : Kept} (event : Event) → room ≡ old → new ≡ ledger_with_event room event → new ≡ ledger_with_event old event
in_room event same is = is ∙ ap (λ (x : Kept). ledger_with_event x event) same

pub add-requires : goal.add-requires
add-requires g c =
    let kept = c.self.inside.ledger.book in
    let t = c.args.submission.now in
    let fits = subst (λ (x : Book). Fits x.settings x.who x.events (submission_event t)) (sym c.self.view_is) c.requires.fits in
    let long = ap length c.self.invariant.0.3.deadlines ∙ length-map (live_taken kept.who kept.events) (deadline_in kept.settings) ∙ next_index kept.who kept.events in
    omega (arith, long, fits.place, c.self.invariant.0.0.places_most)

pub invariant_of-self-2 : goal.invariant_of-self-2
invariant_of-self-2 g c =
    let t = c.args.submission.now in
    let old = c.self.inside.ledger.book in
    let event = submission_event t in
    let kept = in_room event c.make_room_for_transfer.ensures.book c.keep_taken.ensures in
    let due : c.args.deadline ≡ deadline_of old.settings.limit t.stamp = c.requires.deadline ∙ ap (λ (x : Book). deadline_of x.settings.limit t.stamp) (sym c.self.view_is) in (
      takes_over old c.keep_taken.new.self.book c.self.inside.waiting c.add.new.self t.id t.to t.cents t.stamp c.self.invariant.0
          (subst (λ (x : Book). Fits x.settings x.who x.events (submission_event t)) (sym c.self.view_is) c.requires.fits)
          (c.in_ok-add.ensures.deadlines ∙ ap (λ (n : ℕ). c.self.inside.waiting.deadlines ++ n ∷ []) due)
          (subst (λ (n : ℕ). Adds c.self.inside.waiting.pairs c.add.new.self.pairs n (length c.self.inside.waiting.deadlines)) due c.in_ok-add.ensures.pairs) kept,
      spots_over old c.keep_taken.new.self.book (submission_event t) c.self.inside.arrivals.items kept c.self.invariant.1,
    )

pub returns-in_err-make_room_for_transfer-clause-err : goal.returns-in_err-make_room_for_transfer-clause-err
returns-in_err-make_room_for_transfer-clause-err g c =
    on_err c.from_residual.result _ (ap (λ (x : Kept). book_with_spots x c.self.inside.arrivals.items) c.make_room_for_transfer.ensures.book ∙ c.self.view_is, refl)

pub returns-in_err-add-clause-err : goal.returns-in_err-add-clause-err
returns-in_err-add-clause-err g c =
    on_err c.from_residual-in_err-add.result _ (ap (λ (x : Kept). book_with_spots x c.self.inside.arrivals.items) c.make_room_for_transfer.ensures.book ∙ c.self.view_is, refl)

pub open_place-requires-clause-unused : goal.open_place-requires-clause-unused
open_place-requires-clause-unused g c = λ kn.
    let b = g.B.Board in
    let t = c.args.submission.now in
    let book : Book = c.args.self.now in
    let next : c.live_submissions-index.result ≡ live_submissions book.who book.events = c.live_submissions-index.ensures ∙ ap (λ (x : Book). live_submissions x.who x.events) c.self.view_is in
    let who : c.keep_taken.new.self.book.who ≡ book.who = ap (λ (x : Kept). x.who) (in_room (submission_event t) c.make_room_for_transfer.ensures.book c.keep_taken.ensures) ∙ ap (λ (x : Book). x.who) c.self.view_is in
    next_unused b.settings b.knows b.has_role c.args.board.now book c.requires.lawful
    (subst (λ (n : ℕ). b.knows c.args.board.now (about (place_at book.who n) Opened)) next
    (subst (λ (n : ℕ). b.knows c.args.board.now (about (place_at n c.live_submissions-index.result) Opened)) who kn))

pub returns-clause-opens : goal.returns-clause-opens
returns-clause-opens g c =
    let b = g.B.Board in
    let book : Book = c.args.self.now in
    let t = c.args.submission.now in
    let margin = (b.settings c.args.board.now).margin in
    let next : c.live_submissions-index.result ≡ live_submissions book.who book.events = c.live_submissions-index.ensures ∙ ap (λ (x : Book). live_submissions x.who x.events) c.self.view_is in
    let who : c.keep_taken.new.self.book.who ≡ book.who = ap (λ (x : Kept). x.who) (in_room (submission_event t) c.make_room_for_transfer.ensures.book c.keep_taken.ensures) ∙ ap (λ (x : Book). x.who) c.self.view_is in
    subst (λ (n : ℕ). Learns margin b.knows c.args.board.now (place_at book.who n) (pending (terms_to t.to t.cents t.id) (deadline_of book.settings.limit t.stamp)) c.open_place.new.board) next
    (subst (λ (d : ℕ). Learns margin b.knows c.args.board.now (place_at book.who c.live_submissions-index.result) (pending (terms_to t.to t.cents t.id) d) c.open_place.new.board) c.requires.deadline
    (subst (λ (n : ℕ). Learns margin b.knows c.args.board.now (place_at n c.live_submissions-index.result) (pending (terms_to t.to t.cents t.id) c.args.deadline) c.open_place.new.board) who c.open_place.ensures.opens))

pub returns-clause-ok : goal.returns-clause-ok
returns-clause-ok g c =
    let t = c.args.submission.now in
    over_after c.self.inside.ledger.book c.keep_taken.new.self.book (submission_event t) c.self.inside.arrivals.items (in_room (submission_event t) c.make_room_for_transfer.ensures.book c.keep_taken.ensures) c.self.invariant.1
    ∙ ap (λ (x : Book). record x { events = x.events ++ submission_event t ∷ [] }) c.self.view_is
