-- What a hub on many threads is taken apart into. A choice of this hub.
use Rattle.std.specs.Prelude.{◌≡◌, ℕ, List}
use Rattle.inst_journal.specs.declared.event.Event.{Event}
use Rattle.inst_cell.specs.declared.shared_board.SharedBoard.{SharedBoard}
use Rattle.inst_participant.specs.Together.{histories}
use Rattle.inst_settings.specs.Settings.{HubSettings}
use Rattle.inst_cell.specs.Held.{settings_of, knows, has_role, Stays}
use Rattle.inst_model.specs.Opening.{Opening}
use Rattle.inst_participant.specs.declared.parts.Parts.{Parts}
use Rattle.inst_participant.specs.Parts.{AreParts, AreLaterParts}

-- The parts are those of a hub with this opening.
pub record IsPartsOf (O : Opening) (p : Parts) : Type 0 where
  pub settings_are : settings_of p.board ≡ p.settings
  pub books : AreParts settings_of knows has_role p.board O p.slots.items

-- The same parts later: only deliveries and bookings were added.
pub record AreLater (p q : Parts) : Type 0 where
  pub settings_are : q.settings ≡ p.settings
  pub books : AreLaterParts settings_of knows has_role Stays p.board p.slots.items q.board
      q.slots.items
  pub parts : (O : Opening) → IsPartsOf O p → IsPartsOf O q

-- The histories of the participants, by number.
abbrev pub histories_of : Parts → ℕ → List Event
histories_of p = histories p.slots.items

-- The board with all roles.
abbrev pub board_of : Parts → SharedBoard
board_of p = p.board

-- The settings of the hub.
abbrev pub hub_of : Parts → HubSettings
hub_of p = p.settings
