-- What the closed books have of a place: what its originator booked of the transfer that it took
-- there. It includes all that was seen before. Asking by place is a choice of this hub.
use Rattle.std.specs.Prelude.{◌≡◌, ◌≢◌, ℕ, ◌<◌, List, slice_get, Some}
use Rattle.inst_settings.specs.Settings.{HubSettings, participants}
use Rattle.inst_command.specs.declared.outcome.Outcome.{Outcome}
use Rattle.inst_command.specs.declared.outcome.State.{State}
use Rattle.inst_command.specs.declared.outcome.State.TheVariants.{Unused, Decided}
use Rattle.inst_terms.specs.declared.terms.Terms.{Terms}
use Rattle.inst_command.specs.declared.place.Place.{Place}
use Rattle.inst_board.specs.declared.about.About.TheVariants.{Opened, HasTerms}
use Rattle.inst_board.specs.declared.about.About.TheVariants.{Decided as IsDecided}
use Rattle.inst_board.specs.declared.about.Fact.{Fact}
use Rattle.inst_board.specs.Standing.{about}
use Rattle.inst_journal.specs.declared.event.Event.{Event}
use Rattle.inst_journal.specs.declared.event.Event.TheVariants.{Taken}
use Rattle.inst_journal.specs.Opened.{live_taken}
use Rattle.inst_model.specs.Opening.{Opening, IsOpening}
use Rattle.inst_slot.specs.Book.{Book}
use Rattle.inst_slot.specs.OwnState.{own_state}
use Rattle.inst_participant.specs.Together.{histories, AreTogether, AllAreSettled}

-- The state that the books have for the place.
abbrev pub state_in_books : (ℕ → List Event) → Place → State
state_in_books J k = own_state k.owner (J k.owner) k.index

-- The terms are those of the transfer that was taken at the place.
abbrev pub IsTakenWith : (ℕ → List Event) → Place → Terms → Type 0
IsTakenWith J k t = (stamp : ℕ) ×
    (slice_get (live_taken k.owner (J k.owner)) k.index ≡ Some (Taken t.id t.to t.cents stamp))

-- What is known of a place that is known to be opened is in the books.
pub record IsInTheBooks {B : Type 0} (knows : B → Fact → Type 0) (b : B) (J : ℕ →
    List Event) (k : Place) : Type 0 where
  pub used : state_in_books J k ≢ Unused
  pub terms : (t : Terms) → knows b (about k (HasTerms t)) → IsTakenWith J k t
  pub outcome : (o : Outcome) → knows b (about k (IsDecided o)) → state_in_books J k ≡ Decided o

-- Settled books have all that the board knows of a place that it knows to be opened.
abbrev pub WhatIsKnownIsTold : {B : Type 0} → (B → HubSettings) → (B → Fact → Type 0) →
    (B → ℕ → Type 0) → Type 0
WhatIsKnownIsTold {B} settings knows has_role =
    (b : B) (s : HubSettings) (O : Opening) (books : List Book) → IsOpening s O →
    AreTogether settings knows has_role b s O books → AllAreSettled knows b books → (k : Place) →
    k.owner < participants s →
    knows b (about k Opened) → IsInTheBooks knows b (histories books) k
