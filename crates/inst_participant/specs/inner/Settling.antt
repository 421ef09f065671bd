-- What is delivered and booked once a participant's book is settled.
use Rattle.std.specs.Prelude.{◌≡◌, ◌⊎◌, ℕ, true, is_some, List, slice_get, Contains, Some}
use Rattle.inst_command.specs.declared.outcome.Outcome.{Outcome}
use Rattle.inst_terms.specs.declared.terms.Terms.{Terms}
use Rattle.inst_command.specs.declared.place.Place.{Place}
use Rattle.inst_board.specs.declared.about.About.TheVariants.{Opened, HasTerms, Decided}
use Rattle.inst_board.specs.declared.about.Fact.{Fact}
use Rattle.inst_board.specs.Standing.{about}
use Rattle.inst_journal.specs.declared.event.Event.TheVariants.{Taken}
use Rattle.inst_journal.specs.Booked.{is_forwarded, booked}
use Rattle.inst_journal.specs.Opened.{live_taken}
use Rattle.inst_slot.specs.declared.arrival.Arrival.{Arrival}
use Rattle.inst_slot.specs.Book.{Book, place_at}
use Rattle.inst_slot.specs.LawfulBoard.{LiesAt}

-- If b knows the outcome of x's transfer at the place, y has it booked.
abbrev pub IsBookedAt : {B : Type 0} → (B → Fact → Type 0) → B → Book → Place → Book → Type 0
IsBookedAt knows b x k y =
    (id : List ℕ) (o : Outcome) → LiesAt x k.owner id k.index → knows b (about k (Decided o)) →
    is_some (booked k.owner id y.events) ≡ true

-- If b knows a transfer for the participant at the place, it was delivered or its outcome is known.
abbrev pub HasArrived : {B : Type 0} → (B → Fact → Type 0) → B → Place → Book → Type 0
HasArrived knows b k y =
    (t : Terms) → t.to ≡ y.who → knows b (about k Opened) → knows b (about k (HasTerms t)) →
    (is_forwarded k.owner t.id y.events ≡ true) ⊎ ((o : Outcome) × knows b (about k (Decided o)))

-- Each own live transfer is booked if b knows its outcome.
abbrev pub OwnAreBooked : {B : Type 0} → (B → Fact → Type 0) → B → Book → Type 0
OwnAreBooked knows b y = (index : ℕ) (id : List ℕ) (to cents stamp : ℕ) (o : Outcome) →
    slice_get (live_taken y.who y.events) index ≡ Some (Taken id to cents stamp) →
    knows b (about (place_at y.who index) (Decided o)) → is_some (booked y.who id y.events) ≡ true

-- Each forwarded transfer is booked if b knows its outcome.
abbrev pub ArrivedAreBooked : {B : Type 0} → (B → Fact → Type 0) → B → Book → Type 0
ArrivedAreBooked knows b y =
    (x : Arrival) (index : ℕ) (o : Outcome) → Contains y.arrivals x → x.index ≡ Some index →
    knows b (about (place_at x.entry.from index) (Decided o)) →
    is_some (booked x.entry.from x.entry.id y.events) ≡ true

-- The originator's transfers for the participant were delivered, or their outcomes are known.
abbrev pub HaveCome : {B : Type 0} → (B → Fact → Type 0) → B → ℕ → Book → Type 0
HaveCome knows b owner y = (index : ℕ) → HasArrived knows b (place_at owner index) y
