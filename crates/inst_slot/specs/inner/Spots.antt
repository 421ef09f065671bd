-- Finding a spot by its transfer's position in the table.
use Rattle.std.specs.Prelude.{◌≡◌, ◌≢◌, ℕ, get_or, List, slice_get, Option, Some, None}
use Rattle.inst_command.specs.declared.outcome.Outcome.{Outcome}
use Rattle.inst_journal.specs.declared.event.Event.{Event}
use Rattle.inst_journal.specs.Booked.{booked}
use Rattle.inst_transfers.specs.State.{rows_of}
use Rattle.inst_ledger.specs.Inbox.{no_entry}
use Rattle.inst_slot.specs.declared.arrivals.Spot.{Spot}

-- The booked outcome of the transfer at a position of the table.
abbrev pub booked_at : ℕ → List Event → ℕ → Option Outcome
booked_at who J position =
    booked (get_or (rows_of who J) position no_entry).from
    (get_or (rows_of who J) position no_entry).id J

-- The spot at index k has this position.
pub record IsSpotAt (spots : List Spot) (position k : ℕ) : Type 0 where
  pub spot : Spot
  pub there : slice_get spots k ≡ Some spot
  pub is : spot.position ≡ position

-- The index of the spot at the position, or none if there is none.
abbrev pub FindsSpot : List Spot → ℕ → Option ℕ → Type 0
FindsSpot spots position None =
    (k : ℕ) (spot : Spot) → slice_get spots k ≡ Some spot → spot.position ≢ position
FindsSpot spots position (Some k) = IsSpotAt spots position k
