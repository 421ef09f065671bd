-- The first forwarded transfer without a booked outcome. A choice of this hub.
use Rattle.std.specs.Prelude.{◌≡◌, ℕ, ◌≤◌, ◌<◌, is_none, if◌then◌else◌, slice_get, Option, Some}
use Rattle.std.specs.Prelude.{None}
use Rattle.inst_command.specs.declared.place.Place.{Place}
use Rattle.inst_journal.specs.Booked.{booked}
use Rattle.inst_slot.specs.declared.arrival.Arrival.{Arrival}
use Rattle.inst_slot.specs.Book.{Book, place_with_index}

-- The place of an arrival, if it has no booked outcome and its place is known.
abbrev pub unbooked_place : Book → Arrival → Option Place
unbooked_place book arrival =
    if is_none (booked arrival.entry.from arrival.entry.id book.events)
    then place_with_index arrival.entry.from arrival.index else None

-- No arrival at these positions has such a place.
abbrev pub NoneUnbooked : Book → ℕ → ℕ → Type 0
NoneUnbooked book from before = (i : ℕ) (arrival : Arrival) → from ≤ i → i < before →
    slice_get book.arrivals i ≡ Some arrival → unbooked_place book arrival ≡ None

-- The first arrival from the position on with such a place: its position, and the place.
pub record IsNextUnbooked (book : Book) (from : ℕ) (next : ℕ × Place) : Type 0 where
  pub arrival : Arrival
  pub there : slice_get book.arrivals next.0 ≡ Some arrival
  pub place : unbooked_place book arrival ≡ Some next.1
  pub within : from ≤ next.0
  pub first : NoneUnbooked book from next.0

-- That first arrival, or none if there is none.
abbrev pub GivesUnbooked : Book → ℕ → Option (ℕ × Place) → Type 0
GivesUnbooked book from None =
    (i : ℕ) (arrival : Arrival) → from ≤ i → slice_get book.arrivals i ≡ Some arrival →
    unbooked_place book arrival ≡ None
GivesUnbooked book from (Some next) = IsNextUnbooked book from next
