-- The law of a participant behind its lock, and how it may change: board and books are related as a
-- slot leaves them, and the history only grows. A choice of this hub.
use Rattle.std.specs.Prelude.{◌≡◌, ℕ}
use mathlib.Core.List.{IsPrefix}
use Rattle.inst_cell.specs.declared.shared_board.SharedBoard.{SharedBoard}
use Rattle.inst_cell.specs.Held.{settings_of, knows, has_role, Stays, AtOneTable}
use Rattle.inst_slot.specs.LawfulBoard.{IsLawfulBoard, AllAreAdopted}
use Rattle.inst_participant.specs.declared.participant.Participant.{Participant}

-- A participant that can take any call.
-- - lawful: its board is lawful for its books.
-- - adopted: the places of all carried transfers were found.
pub record IsReady (x : Participant) : Type 0 where
  pub lawful : IsLawfulBoard settings_of knows has_role x.board x.slot
  pub adopted : AllAreAdopted x.slot

-- The participant p of the hub with this table of words.
-- - one: its board shares the table.
-- - who: its number is p.
pub record IsBehind (words : SharedBoard) (p : ℕ) (x : Participant) : Type 0 where
  pub one : AtOneTable words x.board
  pub who : x.slot.who ≡ p
  pub ready : IsReady x

-- The same participant later.
pub record IsLater (x y : Participant) : Type 0 where
  pub stays : Stays x.board y.board
  pub who : y.slot.who ≡ x.slot.who
  pub settings : y.slot.settings ≡ x.slot.settings

-- The history of y extends the history of x.
abbrev pub HistoryGrows : Participant → Participant → Type 0
HistoryGrows x y = IsPrefix x.slot.events y.slot.events
