-- What a caller sees of a transfer: pending or decided, and never less than what it saw before.
-- Callers may look at any time. A choice of this hub.
use Rattle.std.specs.Prelude.{◌≡◌}
use Rattle.inst_command.specs.declared.outcome.State.{State}
use Rattle.inst_command.specs.declared.outcome.State.TheVariants.{Unused, Pending, Decided}
use Rattle.inst_command.specs.declared.place.Place.{Place}
use Rattle.inst_board.specs.Standing.{Standing, unused, pending, decided}
use Rattle.inst_board.specs.Learning.{Learns}
use Rattle.inst_board.specs.declared.about.Fact.{Fact}
use Rattle.inst_cell.specs.declared.shared_board.SharedBoard.{SharedBoard}
use Rattle.inst_cell.specs.declared.sight.Sight.{Sight}
use Rattle.inst_cell.specs.Held.{knows, settings_of}

-- The board that the sight reads with.
abbrev pub board_of_sight : Sight → SharedBoard
board_of_sight t = t.board

-- The sight knows the fact.
abbrev pub sight_knows : Sight → Fact → Type 0
sight_knows t f = knows (board_of_sight t) f

-- The state that a standing shows.
abbrev pub state_of : Standing → State
state_of unused = Unused
state_of (pending terms deadline) = Pending
state_of (decided terms deadline outcome at) = Decided outcome

-- A peek: the sight learns the standing of the place, and the state returned is the state of that
-- standing.
abbrev pub Peeks : Sight → Place → State → Sight → Type 0
Peeks t k found u =
    (p : Standing) × Learns (settings_of (board_of_sight t)).margin sight_knows t k p u
    × (found ≡ state_of p)
