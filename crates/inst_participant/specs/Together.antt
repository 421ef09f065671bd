-- The books of all participants over one board with all roles, as a closing finds and leaves them:
-- each extends what the hub was opened with, and has all outcomes and deliveries once it is
-- settled. A choice of this hub.
use Rattle.std.specs.Prelude.{◌≡◌, ◌≢◌, ◌⊎◌, ℕ, true, is_some, List, length, slice_get, Contains}
use Rattle.std.specs.Prelude.{Some}
use Rattle.inst_settings.specs.Settings.{HubSettings, participants}
use Rattle.inst_command.specs.declared.outcome.Outcome.{Outcome}
use Rattle.inst_terms.specs.declared.terms.Terms.{Terms}
use Rattle.inst_command.specs.declared.place.Place.{Place}
use Rattle.inst_board.specs.declared.about.About.TheVariants.{Opened, HasTerms, Decided}
use Rattle.inst_board.specs.declared.about.Fact.{Fact}
use Rattle.inst_board.specs.Standing.{about}
use Rattle.inst_journal.specs.declared.event.Event.{Event}
use Rattle.inst_journal.specs.declared.event.Event.TheVariants.{Taken}
use Rattle.inst_journal.specs.Booked.{is_forwarded, booked}
use Rattle.inst_journal.specs.Opened.{carried, live_taken}
use Rattle.inst_journal.specs.Sound.{IsSound}
use Rattle.inst_model.specs.Closing.{AreClosed}
use Rattle.inst_model.specs.Fit.{BooksFit}
use Rattle.inst_model.specs.Opening.{Opening, IsOpening, beginning}
use Rattle.inst_slot.specs.declared.arrival.Arrival.{Arrival}
use Rattle.inst_slot.specs.Book.{Book, events_of, place_at}
use Rattle.inst_slot.specs.LawfulBoard.{IsLawfulBoard, AllAreAdopted}

-- The history of each participant, by number.
abbrev pub histories : List Book → ℕ → List Event
histories books p = events_of (slice_get books p)

-- The book of participant p of a hub with this opening, over this board.
-- - sound: its history is one that a participant can have.
-- - since: what it carries is what the hub began with.
-- - lawful, adopted: the board is lawful for it, and the places of what it carries were found.
pub record IsMemberBook {B : Type 0} (settings : B → HubSettings) (knows : B → Fact →
    Type 0) (has_role : B → ℕ → Type 0)
    (b : B) (s : HubSettings) (O : Opening) (p : ℕ) (book : Book) : Type 0 where
  pub settings_are : book.settings ≡ s
  pub who_is : book.who ≡ p
  pub sound : IsSound s p book.events
  pub since : carried book.events ≡ beginning O p
  pub lawful : IsLawfulBoard settings knows has_role b book
  pub adopted : AllAreAdopted book

-- The books of all participants, by number.
pub record AreTogether {B : Type 0} (settings : B → HubSettings) (knows : B → Fact →
    Type 0) (has_role : B → ℕ → Type 0)
    (b : B) (s : HubSettings) (O : Opening) (books : List Book) : Type 0 where
  pub one_each : length books ≡ participants s
  pub member : (p : ℕ) (book : Book) → slice_get books p ≡ Some book →
      IsMemberBook settings knows has_role b s O p book

-- The participant has settled all.
-- - own: a live transfer of its own is booked if its outcome is known.
-- - arrived: so is a forwarded one.
-- - come: a transfer for it was delivered, or its outcome is known.
pub record HasSettledAll {B : Type 0} (knows : B → Fact → Type 0) (b : B)
    (book : Book) : Type 0 where
  pub own : (index : ℕ) (id : List ℕ) (to cents stamp : ℕ) (o : Outcome) →
      slice_get (live_taken book.who book.events) index ≡ Some (Taken id to cents stamp) →
      knows b (about (place_at book.who index) (Decided o)) →
      is_some (booked book.who id book.events) ≡ true
  pub arrived : (x : Arrival) (index : ℕ) (o : Outcome) → Contains book.arrivals x →
      x.index ≡ Some index →
      knows b (about (place_at x.entry.from index) (Decided o)) →
      is_some (booked x.entry.from x.entry.id book.events) ≡ true
  pub come : (k : Place) (t : Terms) → k.owner ≢ book.who → t.to ≡ book.who →
      knows b (about k Opened) →
      knows b (about k (HasTerms t)) →
      (is_forwarded k.owner t.id book.events ≡ true)
      ⊎ ((o : Outcome) × knows b (about k (Decided o)))

-- Each participant has settled all.
abbrev pub AllAreSettled : {B : Type 0} → (B → Fact → Type 0) → B → List Book → Type 0
AllAreSettled knows b books =
    (p : ℕ) (book : Book) → slice_get books p ≡ Some book → HasSettledAll knows b book

-- The books of one hub over one board fit each other.
abbrev pub TogetherTheyFit : {B : Type 0} → (B → HubSettings) → (B → Fact → Type 0) →
    (B → ℕ → Type 0) → Type 0
TogetherTheyFit {B} settings knows has_role =
    (b : B) (s : HubSettings) (O : Opening) (books : List Book) → IsOpening s O →
    AreTogether settings knows has_role b s O books → BooksFit s (histories books)

-- If all are settled, they are closed.
abbrev pub SettledBooksAreClosed : {B : Type 0} → (B → HubSettings) → (B → Fact → Type 0) →
    (B → ℕ → Type 0) → Type 0
SettledBooksAreClosed {B} settings knows has_role =
    (b : B) (s : HubSettings) (O : Opening) (books : List Book) → IsOpening s O →
    AreTogether settings knows has_role b s O books → AllAreSettled knows b books →
    AreClosed s (histories books)
