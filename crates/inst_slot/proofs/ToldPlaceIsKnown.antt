-- The place that a slot tells of a transfer is known.
use Rattle.std.proofs.Common.{◌≡◌, ℕ, Bool, true, false, ◌==◌, cond, List, inl, inr, refl, subst, Option, Some, None}
use Rattle.std.specs.Prelude.{position}
use Rattle.std.proofs.lemmas.Bool.{eqb-true}
use Rattle.inst_settings.specs.Settings.{HubSettings}
use Rattle.inst_command.specs.declared.place.Place.{Place}
use Rattle.inst_board.specs.declared.about.Fact.{Fact}
use Rattle.inst_journal.specs.Booked.{takes}
use Rattle.inst_journal.specs.Opened.{live_taken}
use Rattle.inst_slot.specs.Book.{Book, place_at, arrived_at, place_with_index}
use Rattle.inst_slot.specs.LawfulBoard.{LiesAt}
use Rattle.inst_slot.specs.Laws.{KnowsTransfer, AToldPlaceIsKnown}
use Rattle.inst_slot.proofs.BoardStaysLawful.{lying}
use Rattle.inst_slot.proofs.SlotMayDecideWhatIsAsked.{taken_at_position}

placed_at : (from : ℕ) (o : Option ℕ) (k : Place) → place_with_index from o ≡ Some k → (index : ℕ) × (o ≡ Some index) × (place_at from index ≡ k)
placed_at from None k e = let no : ⊥ = cc in absurd no
placed_at from (Some index) k e = let same : place_at from index ≡ k = cc in (index, refl, same)

told_lies : (book : Book) (from : ℕ) (id : List ℕ) (index : ℕ) (b : Bool) → (from == book.who) ≡ b → cond b (position (takes id) (live_taken book.who book.events)) (arrived_at from id book.arrivals) ≡ Some index → LiesAt book from id index
told_lies book from id index true own e = inl (eqb-true from book.who own, taken_at_position book id index e)
told_lies book from id index false own e = inr e

pub told_known : {B : Type 0} (settings : B → HubSettings) (knows : B → Fact → Type 0) (has_role : B → ℕ → Type 0) → AToldPlaceIsKnown settings knows has_role
told_known {B} settings knows has_role b book from id k was e =
    let at = placed_at from (cond (from == book.who) (position (takes id) (live_taken book.who book.events)) (arrived_at from id book.arrivals)) k e in
    let lain = lying settings knows has_role b book from id at.0 was (told_lies book from id at.0 (from == book.who) refl at.1) in
    let here : KnowsTransfer knows b id (place_at from at.0) = record { terms = lain.terms; deadline = lain.deadline; id_is = lain.id_is; known = lain.known } in
    subst (λ (x : Place). KnowsTransfer knows b id x) at.2 here
