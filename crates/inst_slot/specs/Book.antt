-- The contract's view of a slot: the hub's settings, the participant's number and history, and its
-- arrivals. Keeping each participant's books apart is a choice of this hub.
use Rattle.std.specs.Prelude.{ℕ, Bool, false, ◌==◌, if◌then◌else◌, List, [], Option, Some, None}
use Rattle.std.specs.Prelude.{position}
use Rattle.std.specs.List.{filter}
use Rattle.inst_settings.specs.Settings.{HubSettings}
use Rattle.inst_command.specs.declared.entry.Entry.{Entry}
use Rattle.inst_terms.specs.declared.terms.Terms.{Terms}
use Rattle.inst_command.specs.declared.place.Place.{Place}
use Rattle.inst_journal.specs.declared.event.Event.{Event}
use Rattle.inst_journal.specs.Booked.{takes, same_transfer, first_some}
use Rattle.inst_journal.specs.Opened.{is_live, live_taken}
use Rattle.inst_journal.specs.Reply.{inbox}
use Rattle.inst_slot.specs.declared.arrival.Arrival.{Arrival}

-- The books of a slot.
pub record Book : Type 0 where
  pub settings : HubSettings
  pub who : ℕ
  pub events : List Event
  pub arrivals : List Arrival

-- The events of a book, or none if there is no book.
abbrev pub events_of : Option Book → List Event
events_of None = []
events_of (Some book) = book.events

-- The place of this owner with this index.
abbrev pub place_at : ℕ → ℕ → Place
place_at owner index = record { owner = owner; index = index }

-- The terms of a transfer: beneficiary, cents and identifier.
abbrev pub terms_to : ℕ → ℕ → List ℕ → Terms
terms_to to cents id = record { to = to; cents = cents; id = id }

-- The live forwarded transfers, in order of arrival.
abbrev pub live_inbox : List Event → List Entry
live_inbox J = filter (λ entry. is_live entry.from entry.id J) (inbox J)

-- The index of the arrival's place, if the arrival is of this transfer and its place is known.
abbrev pub arrival_index : ℕ → List ℕ → Arrival → Option ℕ
arrival_index from id arrival =
    if same_transfer from id arrival.entry.from arrival.entry.id then arrival.index else None

-- The index of the place from which the transfer was forwarded.
abbrev pub arrived_at : ℕ → List ℕ → List Arrival → Option ℕ
arrived_at from id arrivals = first_some (arrival_index from id) arrivals

-- True if the index found is this one.
abbrev pub is_at : ℕ → Option ℕ → Bool
is_at index None = false
is_at index (Some other) = other == index

-- The place of this owner with this index, if there is one.
abbrev pub place_with_index : ℕ → Option ℕ → Option Place
place_with_index from None = None
place_with_index from (Some index) = Some (place_at from index)

-- The place of a live transfer of the originator: an own one, or a forwarded one.
abbrev pub place_of : Book → ℕ → List ℕ → Option Place
place_of book from id =
    place_with_index from (if from == book.who
    then position (takes id) (live_taken book.who book.events)
    else arrived_at from id book.arrivals)
