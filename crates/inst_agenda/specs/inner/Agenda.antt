-- Changes of an agenda.
use Rattle.std.specs.Prelude.{◌≡◌, ◌⊎◌, ℕ, Bool, true, false, ◌&&◌, ◌||◌, nat_eq, nat_lt, [], ◌∷◌}
use Rattle.std.specs.Prelude.{Option, Some, None, List, ◌≤◌, suc, length}
use Rattle.std.specs.List.{All, AllPairs}
use Rattle.inst_base.specs.TimeLimit.{is_due}
use Rattle.inst_command.specs.declared.place.Place.{Place}
use Rattle.inst_agenda.specs.Agenda.{Agenda, is_same_place, is_entry, is_awaited, is_next}

-- True if one place comes before another: by originator, then by index.
abbrev pub place_comes_before : ℕ × ℕ → ℕ × ℕ → Bool
place_comes_before one other = nat_lt one.0 other.0
    || (nat_eq one.0 other.0 && nat_lt one.1 other.1)

-- The place is one of the next, and nothing else changed.
pub record Notes (old new : Agenda) (place : Place) : Type 0 where
  pub waiting_is : new.waiting ≡ old.waiting
  pub next_are : (owner index : ℕ) →
      is_next new owner index
      ≡ (is_next old owner index || is_same_place place.owner place.index (owner, index))

-- The place waits for the moment, and nothing else changed.
pub record Waits (old new : Agenda) (moment : ℕ) (place : Place) : Type 0 where
  pub next_is : new.next ≡ old.next
  pub waiting_are : (m owner index : ℕ) →
      is_awaited new m owner index
      ≡ (is_awaited old m owner index
      || is_entry moment place.owner place.index (m, (owner, index)))

-- Waiting places in the order of their moments.
abbrev pub AreInOrder : List (ℕ × (ℕ × ℕ)) → Type 0
AreInOrder row = AllPairs (λ one other. one.0 ≤ other.0) row

-- None of the places waits for a later moment.
abbrev pub WaitNoLater : List (ℕ × (ℕ × ℕ)) → ℕ → Type 0
WaitNoLater row moment = All (λ entry. entry.0 ≤ moment) row

-- The first of the row is due and was removed; `None` if none is due.
abbrev pub PopsDue : List (ℕ × (ℕ × ℕ)) → List (ℕ × (ℕ × ℕ)) → ℕ → Option (ℕ × (ℕ × ℕ)) → Type 0
PopsDue old new at None = (new ≡ old) × All (λ entry. is_due entry.0 at ≡ false) old
PopsDue old new at (Some entry) = (old ≡ entry ∷ new) × (is_due entry.0 at ≡ true)

-- A waiting place that is due was removed.
pub record TakesDue (old new : Agenda) (at moment : ℕ) (place : Place) : Type 0 where
  pub due : is_due moment at ≡ true
  pub next_is : new.next ≡ old.next
  pub fewer : length old.waiting ≡ suc (length new.waiting)
  pub waiting_were : (m owner index : ℕ) →
      is_awaited old m owner index
      ≡ (is_entry m owner index (moment, (place.owner, place.index))
      || is_awaited new m owner index)

-- No waiting place is due.
abbrev pub NothingIsDue : Agenda → ℕ → Type 0
NothingIsDue agenda at =
    (m owner index : ℕ) → is_awaited agenda m owner index ≡ true → is_due m at ≡ false

-- A waiting place that is due was removed, if there is one.
abbrev pub TakesAnyDue : Agenda → Agenda → ℕ → Option (ℕ × Place) → Type 0
TakesAnyDue old new at None = (new ≡ old) × NothingIsDue old at
TakesAnyDue old new at (Some taken) = TakesDue old new at taken.0 taken.1

-- Some waiting places were moved to the next, and nothing else changed.
pub record Moves (old new : Agenda) : Type 0 where
  pub waits_on : (m owner index : ℕ) → is_awaited new m owner index ≡ true →
      is_awaited old m owner index ≡ true
  pub waits_still : (m owner index : ℕ) → is_awaited old m owner index ≡ true →
      (is_awaited new m owner index ≡ true) ⊎ (is_next new owner index ≡ true)
  pub next_still : (owner index : ℕ) → is_next old owner index ≡ true →
      is_next new owner index ≡ true
  pub next_from : (owner index : ℕ) → is_next new owner index ≡ true →
      (is_next old owner index ≡ true) ⊎ ((m : ℕ) × (is_awaited old m owner index ≡ true))

-- All due places were moved to the next.
abbrev pub MovesDue : Agenda → Agenda → ℕ → Type 0
MovesDue old new at = Moves old new × NothingIsDue new at

-- The first of the next was removed; the others come after it.
pub record TakesNext (old new : Agenda) (place : Place) : Type 0 where
  pub waiting_is : new.waiting ≡ old.waiting
  pub first : old.next ≡ (place.owner, place.index) ∷ new.next
  pub after : (owner index : ℕ) → is_next new owner index ≡ true →
      place_comes_before (place.owner, place.index) (owner, index) ≡ true

-- The first of the next was removed, if there is one.
abbrev pub TakesAnyNext : Agenda → Agenda → Option Place → Type 0
TakesAnyNext old new None = (new ≡ old) × (old.next ≡ [])
TakesAnyNext old new (Some place) = TakesNext old new place
