-- The transfers that a history has taken, forwarded and booked. An originator and an identifier
-- name a transfer (EPC004-16, chapter 4, attributes: the originator's reference); that each side
-- books the outcome is a choice of this hub.
use Rattle.std.specs.Prelude.{ℕ, Bool, true, false, ◌&&◌, ◌==◌, not, if◌then◌else◌, List, [], ◌∷◌}
use Rattle.std.specs.Prelude.{Option, Some, None}
use Rattle.std.specs.List.{list_any}
use Rattle.inst_settings.specs.Settings.{same_text}
use Rattle.inst_command.specs.declared.outcome.Outcome.{Outcome}
use Rattle.inst_journal.specs.declared.event.Event.{Event}
use Rattle.inst_journal.specs.declared.event.Event.TheVariants.{Taken, Forwarded, Booked}

-- The first of two, if it is there, else the second.
abbrev pub or_else : {A : Type 0} → Option A → Option A → Option A
or_else None second = second
or_else (Some x) second = Some x

-- The first value that f gives.
abbrev pub first_some : {A B : Type 0} → (A → Option B) → List A → Option B
first_some f [] = None
first_some f (x ∷ xs) = or_else (f x) (first_some f xs)

-- True if two pairs of an originator and an identifier name the same transfer.
abbrev pub same_transfer : ℕ → List ℕ → ℕ → List ℕ → Bool
same_transfer from id other_from other_id = (other_from == from) && same_text other_id id

-- True if the event takes a submission with this identifier.
abbrev pub takes : List ℕ → Event → Bool
takes id (Taken other to cents stamp) = same_text other id
takes id _ = false

-- True if the event forwards this transfer.
abbrev pub forwards : ℕ → List ℕ → Event → Bool
forwards from id (Forwarded other_from other cents deadline) =
    same_transfer from id other_from other
forwards from id _ = false

-- The outcome that the event books for this transfer.
abbrev pub books : ℕ → List ℕ → Event → Option Outcome
books from id (Booked other_from other outcome) =
    if same_transfer from id other_from other then Some outcome else None
books from id _ = None

-- True if the participant has submitted a transfer with this identifier.
abbrev pub is_taken : List ℕ → List Event → Bool
is_taken id J = list_any (takes id) J

-- True if this transfer was forwarded to the participant.
abbrev pub is_forwarded : ℕ → List ℕ → List Event → Bool
is_forwarded from id J = list_any (forwards from id) J

-- The outcome that the participant has booked for this transfer, if any.
abbrev pub booked : ℕ → List ℕ → List Event → Option Outcome
booked from id J = first_some (books from id) J

-- The outcome that the event books for the participant's own transfer with this identifier: one
-- that wasn't forwarded to it.
abbrev pub books_own : List Event → List ℕ → Event → Option Outcome
books_own J id (Booked from other outcome) =
    if same_text other id && not (is_forwarded from other J) then Some outcome else None
books_own J id _ = None

-- The outcome that the participant has booked for its own transfer with this identifier, if any.
abbrev pub own_booked : List ℕ → List Event → Option Outcome
own_booked id J = first_some (books_own J id) J

-- True if the event forwards a transfer.
abbrev pub is_forwarding : Event → Bool
is_forwarding (Forwarded from id cents deadline) = true
is_forwarding _ = false
