use Rattle.std.proofs.Common.{◌≡◌, ℕ, List, sym, ap, subst}
use Rattle.inst_settings.specs.Settings.{HubSettings}
use Rattle.inst_command.specs.declared.place.Place.{Place}
use Rattle.inst_board.specs.Learning.{KnowsTruly}
use Rattle.inst_journal.specs.declared.event.Event.{Event}
use Rattle.inst_journal.specs.Opened.{carried, live_taken}
use Rattle.inst_journal.proofs.EventsCarriedOverOpening.{carried_opened}
use Rattle.inst_slot.specs.Book.{Book}
use Rattle.inst_slot.specs.LawfulBoard.{IsLawfulBoard}
use Rattle.inst_slot.specs.Opening.{OpensPlaces}
use Rattle.inst_slot.proofs.SlotOpensAgain.{opened_sound, opened_lawful}
use Rattle.inst_slot.proofs.slot.Slot.open_from.Goals as goal

pub open_places-requires-clause-opened : goal.open_places-requires-clause-opened
open_places-requires-clause-opened g c = subst (λ (x : Book). carried x.events ≡ x.events) (sym c.in_ok-slot.ensures.ok) (carried_opened c.args.journal.now.events)

pub returns-clause-ok : goal.returns-clause-ok
returns-clause-ok g c = record {
  slot_is = c.in_ok-slot.ensures.ok;
  places =
      let b = g.B.Board in
      let book : Book = c.in_ok-slot.slot in
      let same = c.in_ok-slot.ensures.ok in
      subst (λ (n : ℕ). OpensPlaces b.knows c.args.settings.now n (live_taken n book.events) c.args.board.now c.open_places.new.board) (ap (λ (x : Book). x.who) same)
      (subst (λ (s : HubSettings). OpensPlaces b.knows s book.who (live_taken book.who book.events) c.args.board.now c.open_places.new.board) (ap (λ (x : Book). x.settings) same) c.open_places.ensures.opens);
  lawful =
      let b = g.B.Board in
      let J : List Event = c.args.journal.now.events in
      let s : HubSettings = c.args.settings.now in
      let who : ℕ = c.args.who in
      let same = c.in_ok-slot.ensures.ok in
      let now = c.open_places.new.board in
      let opens = subst (λ (x : Book). OpensPlaces b.knows x.settings x.who (live_taken x.who x.events) c.args.board.now now) same c.open_places.ensures.opens in
      let truly = subst (λ (x : Book). (k : Place) → KnowsTruly x.settings.margin b.knows now k) same c.open_places.ensures.truly in
      subst (λ (x : Book). IsLawfulBoard b.settings b.knows b.has_role now x) (sym same)
      (opened_lawful b.settings b.knows b.has_role b.stood b.stays (λ x y. g.met.B.Board.stays_settings x y) (λ x y p. g.met.B.Board.stays_roles x y p) (λ x k t o. g.met.B.Board.stood_seldom x k t o) (λ x y z. g.met.B.Board.stays_on x y z)
      c.args.board.now now s who J c.requires.board c.open_places.ensures.rest.holder (opened_sound s who J c.requires.books.sound c.requires.books.few) truly opens);
}
