-- The part of a history that is carried over an opening from the books: the events up to and
-- including the last Opened. A transfer whose outcome is booked there has no place any more; each
-- other transfer is live. A choice of this hub.
use Rattle.std.specs.Prelude.{ℕ, ◌<◌, Bool, true, false, ◌&&◌, ◌==◌, is_none, if◌then◌else◌, List}
use Rattle.std.specs.Prelude.{[], ◌∷◌, count_by}
use Rattle.std.specs.List.{list_any, filter}
use Rattle.inst_journal.specs.declared.event.Event.{Event}
use Rattle.inst_journal.specs.declared.event.Event.TheVariants.{Taken, Forwarded, Opened}
use Rattle.inst_journal.specs.Booked.{booked}
use Rattle.inst_journal.specs.declared.opened.TheConstants.{MOST_OPENINGS}

-- True if the event is an opening.
abbrev pub is_opening : Event → Bool
is_opening Opened = true
is_opening _ = false

-- The number of openings from the books.
abbrev pub openings : List Event → ℕ
openings J = count_by is_opening J

-- The books can be opened from once more.
abbrev pub HasOpeningsLeft : List Event → Type 0
HasOpeningsLeft J = openings J < MOST_OPENINGS

-- True if one of the events is an opening.
abbrev pub has_opening : List Event → Bool
has_opening J = list_any is_opening J

-- The events up to and including the last Opened.
abbrev pub carried : List Event → List Event
carried [] = []
carried (event ∷ events) = if has_opening (event ∷ events) then event ∷ carried events else []

-- The events after the last Opened.
abbrev pub current : List Event → List Event
current [] = []
current (event ∷ events) = if has_opening (event ∷ events) then current events else event ∷ events

-- True if the history has not booked this transfer, own or forwarded, before the last Opened.
abbrev pub is_live : ℕ → List ℕ → List Event → Bool
is_live from id J = is_none (booked from id (carried J))

-- True if the event takes a transfer of `who` that the events `booking` haven't booked.
abbrev pub takes_live : ℕ → List Event → Event → Bool
takes_live who booking (Taken id to cents stamp) = is_none (booked who id booking)
takes_live who booking _ = false

-- The events that took the live transfers of `who` itself, in the order of their places.
abbrev pub live_taken : ℕ → List Event → List Event
live_taken who J = filter (takes_live who (carried J)) J

-- The number of live transfers of `who` itself.
abbrev pub live_submissions : ℕ → List Event → ℕ
live_submissions who J = count_by (takes_live who (carried J)) J

-- True if the event forwards a transfer of this originator that the events `booking` haven't
-- booked.
abbrev pub forwards_live : ℕ → List Event → Event → Bool
forwards_live from booking (Forwarded other id cents deadline) =
    (other == from) && is_none (booked from id booking)
forwards_live from booking _ = false

-- The number of live transfers that were forwarded from this originator.
abbrev pub live_forwarded : ℕ → List Event → ℕ
live_forwarded from J = count_by (forwards_live from (carried J)) J
