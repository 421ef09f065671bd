-- What a teller sees more than before. Sharing a board's knowledge with callers is a choice of this
-- hub.
use Rattle.inst_board.specs.declared.about.Fact.{Fact}
use Rattle.inst_cell.specs.declared.sight.Sight.{Sight}
use Rattle.inst_cell.specs.Held.{Stays}
use Rattle.inst_cell.specs.Seen.{board_of_sight, sight_knows}

-- The sight is over the same words, and knows all that it knew.
pub record SeesMore (t u : Sight) : Type 0 where
  pub stays : Stays (board_of_sight t) (board_of_sight u)
  pub kept : (f : Fact) → sight_knows t f → sight_knows u f
