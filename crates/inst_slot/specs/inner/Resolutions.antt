-- The resolution of a look at a place, with the transfer as the participant's table has it. A
-- choice of this hub.
use Rattle.std.specs.Prelude.{◌≡◌, ℕ, Bool, is_some, Option, Some, None, Result}
use Rattle.std.specs.declared.alloc.AllocError.{AllocError}
use Rattle.inst_command.specs.declared.outcome.Outcome.{Outcome}
use Rattle.inst_terms.specs.declared.terms.Terms.{Terms}
use Rattle.inst_command.specs.declared.place.Place.{Place}
use Rattle.inst_board.specs.declared.look.Look.{Look}
use Rattle.inst_board.specs.declared.look.Look.TheVariants.{Decided}
use Rattle.inst_board.specs.declared.about.Fact.{Fact}
use Rattle.inst_board.specs.Learning.{Looks}
use Rattle.inst_journal.specs.declared.event.Event.{Event}
use Rattle.inst_journal.specs.declared.event.Event.TheVariants.{Booked}
use Rattle.inst_ledger.specs.Book.{LedgerBook as Kept, BookAndRoom}
use Rattle.inst_transfers.specs.Held.{IsFound}
use Rattle.inst_slot.specs.declared.resolution.Resolution.{Resolution}
use Rattle.inst_slot.specs.inner.Answering.{IsOwnAt}
use Rattle.inst_slot.specs.Book.{Book}
use Rattle.inst_slot.specs.Telling.{resolution, with_event, Keeps}

-- A transfer that a look shows decided at an own place is the own live transfer of that place.
abbrev pub ShowsOwn : Kept → Place → Look → Type 0
ShowsOwn book place look =
    (terms : Terms) (outcome : Outcome) → look ≡ Decided terms outcome → place.owner ≡ book.who →
    IsOwnAt book terms.id place

-- The event books the outcome of the transfer found; if that is an own one, it has this place.
pub record IsResolution (l : BookAndRoom) (place : Place) (event : Option Event) (x : Resolution) :
    Type
    0 where
  pub is : event ≡ Some (Booked x.found.from x.found.id x.outcome)
  pub there : IsFound l.table x.found
  pub owner : x.found.from ≡ place.owner
  pub own : x.found.from ≡ l.book.who → IsOwnAt l.book x.found.id place

-- That resolution, or none if there is no event.
abbrev pub GivesResolution : BookAndRoom → Place → Option Event → Option Resolution → Type 0
GivesResolution l place event None = event ≡ None
GivesResolution l place event (Some x) = IsResolution l place event x

-- From board b to board c the place was looked at, and its resolution is booked; or an allocation
-- for it failed.
abbrev pub LearnsOutcome : {B : Type 0} → ℕ → (B → Fact → Type 0) → (B → ℕ → Type 0) →
    (B → Place → Outcome → Type 0) →
    B → Book → Place → Result Bool AllocError → B → Book → Type 0
LearnsOutcome margin knows has_role stood b book k result c new =
    (look : Look) × Looks margin knows has_role stood b k look c
    × Keeps (is_some (resolution book k look)) book (with_event book (resolution book k look))
    result new
