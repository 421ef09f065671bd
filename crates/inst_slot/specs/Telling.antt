-- The effect of a delivery, a learning and an expiry on a participant's books, given what its board
-- shows or decides. Forwarding only pending transfers and booking an outcome once are a choice of
-- this hub.
use Rattle.std.specs.Prelude.{◌≡◌, ◌⊎◌, ℕ, Bool, true, false, not, ◌&&◌, ◌||◌, ◌==◌, is_some}
use Rattle.std.specs.Prelude.{is_none, if◌then◌else◌, List, [], ◌∷◌, ◌++◌, slice_get, Option, Some}
use Rattle.std.specs.Prelude.{None, Result, Ok, Err, alloc_error}
use Rattle.std.specs.declared.alloc.AllocError.{AllocError}
use Rattle.inst_command.specs.declared.entry.Entry.{Entry}
use Rattle.inst_command.specs.declared.outcome.Outcome.{Outcome}
use Rattle.inst_command.specs.declared.place.Place.{Place}
use Rattle.inst_board.specs.declared.look.Look.{Look}
use Rattle.inst_board.specs.declared.look.Look.TheVariants.{Pending, Decided}
use Rattle.inst_board.specs.declared.wish.Wish.TheVariants.{Expire}
use Rattle.inst_board.specs.declared.about.Fact.{Fact}
use Rattle.inst_journal.specs.declared.event.Event.{Event}
use Rattle.inst_journal.specs.declared.event.Event.TheVariants.{Taken, Forwarded, Booked}
use Rattle.inst_journal.specs.Booked.{is_forwarded, booked}
use Rattle.inst_journal.specs.Opened.{live_taken}
use Rattle.inst_slot.specs.Book.{Book, place_at, arrived_at, is_at}
use Rattle.inst_slot.specs.Asking.{Finds, OnlyLooks}

-- The entry that a look at the place delivers: pending, for the participant, and new to it.
abbrev pub delivery : Book → Place → Look → Option Entry
delivery book k (Pending t deadline) =
    if (t.to == book.who) && not (is_forwarded k.owner t.id book.events)
    then Some (record { from = k.owner; id = t.id; cents = t.cents; deadline = deadline }) else None
delivery book k _ = None

-- The book after a transfer was forwarded from the place.
abbrev pub with_delivery : Book → Place → Option Entry → Book
with_delivery book k None = book
with_delivery book k (Some entry) = record book {
  events = book.events ++ Forwarded entry.from entry.id entry.cents entry.deadline ∷ [];
  arrivals = book.arrivals ++ record { entry = entry; index = Some k.index } ∷ [];
}

-- True if the transfer at the place is the participant's: its own, or forwarded from there.
abbrev pub is_party : Book → Place → List ℕ → Bool
is_party book k id = (k.owner == book.who) || is_at k.index (arrived_at k.owner id book.arrivals)

-- The event that books what a look at the place shows, if the transfer is decided, the
-- participant's, and not booked yet.
abbrev pub resolution : Book → Place → Look → Option Event
resolution book k (Decided t outcome) =
    if is_party book k t.id && is_none (booked k.owner t.id book.events)
    then Some (Booked k.owner t.id outcome) else None
resolution book k _ = None

-- The book with one more event, if there is one.
abbrev pub with_event : Book → Option Event → Book
with_event book None = book
with_event book (Some event) = record book { events = book.events ++ event ∷ [] }

-- A call that appends only if there is something new: either it returns whether there was, and the
-- book is `after`; or an allocation for it failed, and the book is unchanged.
abbrev pub Keeps : Bool → Book → Book → Result Bool AllocError → Book → Type 0
Keeps is_new old after result new =
    ((result ≡ Ok is_new) × (new ≡ after))
    ⊎ ((result ≡ Err alloc_error) × (new ≡ old) × (is_new ≡ true))

-- The identifier of the transfer that the event takes.
abbrev pub taken_id : Event → Option (List ℕ)
taken_id (Taken id to cents stamp) = Some id
taken_id _ = None

-- The same, for an event that may be missing.
abbrev pub taken_by : Option Event → Option (List ℕ)
taken_by None = None
taken_by (Some event) = taken_id event

-- The identifier, if its own transfer has no booked outcome.
abbrev pub if_unbooked : Book → Option (List ℕ) → Option (List ℕ)
if_unbooked book None = None
if_unbooked book (Some id) = if is_none (booked book.who id book.events) then Some id else None

-- The identifier of the own live transfer at this index, if it has no booked outcome.
abbrev pub unbooked_at : Book → ℕ → Option (List ℕ)
unbooked_at book index =
    if_unbooked book (taken_by (slice_get (live_taken book.who book.events) index))

-- The event that books the outcome, if there is one.
abbrev pub booking : ℕ → List ℕ → Option Outcome → Option Event
booking from id None = None
booking from id (Some outcome) = Some (Booked from id outcome)

-- An expiry of an own transfer without a booked outcome: either the outcome found at its place is
-- booked, or an allocation failed, the book is unchanged and the board was only looked at. If there
-- is no such transfer nothing happens.
abbrev pub ExpiresFor : {B : Type 0} → ℕ → (B → Fact → Type 0) → (B → ℕ → Type 0) →
    (B → Place → Outcome → Type 0) →
    (B → B → Type 0) → B → Book → ℕ → ℕ → Option (List ℕ) → Result Bool AllocError → B → Book →
    Type 0
ExpiresFor margin knows has_role stood stays b book index at None result c new =
    (result ≡ Ok false) × (new ≡ book) × (c ≡ b)
ExpiresFor margin knows has_role stood stays b book index at (Some id) result c new =
    ((found : Option Outcome) × (result ≡ Ok (is_some found))
    × (new ≡ with_event book (booking book.who id found))
    × Finds margin knows has_role stood stays b (place_at book.who index) Expire at found c)
    ⊎ ((result ≡ Err alloc_error) × (new ≡ book)
    × OnlyLooks margin knows has_role stood b (place_at book.who index) Expire at c)

-- The effect of an expiry of the own live transfer at this index.
abbrev pub Expires : {B : Type 0} → ℕ → (B → Fact → Type 0) → (B → ℕ → Type 0) →
    (B → Place → Outcome → Type 0) →
    (B → B → Type 0) → B → Book → ℕ → ℕ → Result Bool AllocError → B → Book → Type 0
Expires margin knows has_role stood stays b book index at result c new =
    ExpiresFor margin knows has_role stood stays b book index at (unbooked_at book index) result c
    new
