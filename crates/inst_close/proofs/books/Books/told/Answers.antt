use Rattle.std.proofs.Common.{◌≡◌, ◌<◌, ◌≤◌, ◌∙◌, ℕ, Some, None, List, length, refl, sym, ap, subst}
use Rattle.std.specs.Prelude.{slice_get}
use Rattle.std.proofs.lemmas.Bool.{ltb-true, ltb-false}
use Rattle.std.proofs.lemmas.Option.{slice_get_read, slice_get_past}
use Rattle.inst_command.specs.declared.place.Place.{Place}
use Rattle.inst_slot.specs.Book.{Book}
use Rattle.inst_slot.specs.OwnState.{own_state}
use Rattle.inst_close.specs.ClosedHub.{ClosedHub, IsClosed}
use Rattle.inst_close.proofs.OriginatorTellsOfPlace.{told_at, untold_at}
use Rattle.inst_close.proofs.books.Books.told.Goals as goal
use Rattle.inst_close.proofs.books.Books.told.Goals.{After-get}

-- the books are those that were looked up, by the owner's number
looked_up : (c : After-get) → (c.deref.result.now ≡ c.args.self.now.books) × (c.from.result ≡ c.args.ticket.now.owner)
looked_up c = (c.deref.ensures.value ∙ ap (λ (h : ClosedHub). h.books) c.self.view_is, c.from.ensures ∙ ap (λ (j : Place). j.owner) c.place-owner.ensures)

pub returns-in-Some : goal.returns-in-Some
returns-in-Some c =
    let closed : IsClosed c.args.self.now.settings c.args.self.now.books = subst (λ (h : ClosedHub). IsClosed h.settings h.books) c.self.view_is c.self.invariant in
    let k : Place = c.args.ticket.now in
    let book : Book = c.in-Some.slot.now in
    let up = looked_up (goal.at.returns-in-Some c).After-get in
    let below : c.from.result < length c.deref.result.now = ltb-true c.from.result (length c.deref.result.now) (sym c.in-Some.ensures.lookup.0) in
    let read : slice_get c.deref.result.now c.from.result ≡ Some book = slice_get_read c.deref.result.now (length c.deref.result.now) c.from.result book refl below c.in-Some.ensures.lookup.1 in
    let there : slice_get c.args.self.now.books k.owner ≡ Some book = subst (λ (n : ℕ). slice_get c.args.self.now.books n ≡ Some book) up.1 (subst (λ (l : List Book). slice_get l c.from.result ≡ Some book) up.0 read) in
    told_at c.args.self.now.books k book c.own_state.result there
    (c.own_state.ensures ∙ (ap (λ (p : ℕ). own_state p book.events c.place-owner.result.index) (closed.numbered k.owner book there) ∙ ap (λ (j : Place). own_state k.owner book.events j.index) c.place-owner.ensures))

pub returns-in-None : goal.returns-in-None
returns-in-None c =
    let k : Place = c.args.ticket.now in
    let up = looked_up (goal.at.returns-in-None c).After-get in
    let past : length c.deref.result.now ≤ c.from.result = ltb-false c.from.result (length c.deref.result.now) (sym c.in-None.ensures.lookup.0) in
    let none : slice_get c.args.self.now.books k.owner ≡ None = subst (λ (n : ℕ). slice_get c.args.self.now.books n ≡ None) up.1 (subst (λ (l : List Book). slice_get l c.from.result ≡ None) up.0 (slice_get_past c.deref.result.now c.from.result past)) in
    untold_at c.args.self.now.books k none
