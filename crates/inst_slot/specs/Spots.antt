-- Arrivals as a slot stores them: the position of each in the participant's table of transfers, and
-- the index of its place. Everything else is read off the table. A choice of this hub.
pub use Rattle.inst_transfers.specs.State.{rows_of}
pub use Rattle.inst_ledger.specs.Inbox.{no_entry}
use Rattle.std.specs.Prelude.{ℕ, get_or, List, map, length}
use Rattle.inst_command.specs.declared.entry.Entry.{Entry}
use Rattle.inst_transfers.specs.Held.{AreWithin, AreRising}
use Rattle.inst_slot.specs.declared.arrival.Arrival.{Arrival}
use Rattle.inst_slot.specs.declared.arrivals.Spot.{Spot}

-- The arrival at a spot, with its entry from the table's rows.
abbrev pub arrival_of : List Entry → Spot → Arrival
arrival_of rows spot = record { entry = get_or rows spot.position no_entry; index = spot.index }

-- The arrivals at these spots.
abbrev pub arrivals_of : List Entry → List Spot → List Arrival
arrivals_of rows spots = map (arrival_of rows) spots

-- The positions of these spots.
abbrev pub positions_of : List Spot → List ℕ
positions_of spots = map (λ spot. spot.position) spots

-- The positions of the spots are within the table and rise.
abbrev pub AreSpots : List Entry → List Spot → Type 0
AreSpots rows spots = AreWithin (length rows) (positions_of spots) × AreRising (positions_of spots)
