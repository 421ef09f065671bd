-- The agenda of a run: the places that it visits next, in order of originator and index, and for
-- other places the moment from which there may be something to do. A choice of this hub.
use Rattle.std.specs.Prelude.{ℕ, Bool, ◌&&◌, nat_eq, List}
use Rattle.std.specs.List.{list_any}

-- The waiting places, each with its moment, and the places that are next, by originator and index.
pub record Agenda : Type 0 where
  pub waiting : List (ℕ × (ℕ × ℕ))
  pub next : List (ℕ × ℕ)

-- True if the place has this owner and index.
abbrev pub is_same_place : ℕ → ℕ → ℕ × ℕ → Bool
is_same_place owner index place = nat_eq place.0 owner && nat_eq place.1 index

-- True if the entry is of this moment and place.
abbrev pub is_entry : ℕ → ℕ → ℕ → ℕ × (ℕ × ℕ) → Bool
is_entry moment owner index entry = nat_eq entry.0 moment && is_same_place owner index entry.1

-- True if the place waits for this moment.
abbrev pub is_awaited : Agenda → ℕ → ℕ → ℕ → Bool
is_awaited agenda moment owner index = list_any (is_entry moment owner index) agenda.waiting

-- True if the place is one of the next.
abbrev pub is_next : Agenda → ℕ → ℕ → Bool
is_next agenda owner index = list_any (is_same_place owner index) agenda.next
