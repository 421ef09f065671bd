-- Joining the boards of a hub into one.
use Rattle.std.specs.Prelude.{◌≡◌, ℕ, ◌<◌, List, length, slice_get, Some}
use Rattle.inst_settings.specs.Settings.{HubSettings}
use Rattle.inst_board.specs.declared.about.Fact.{Fact}
use Rattle.inst_cell.specs.declared.shared_board.SharedBoard.{SharedBoard}
use Rattle.inst_cell.specs.Held.{settings_of, knows, has_role, Stays, AtOneTable}
use Rattle.inst_model.specs.Opening.{Opening}
use Rattle.inst_slot.specs.Book.{Book}
use Rattle.inst_slot.specs.LawfulBoard.{IsLawfulBoard}
use Rattle.inst_participant.specs.Together.{IsMemberBook}

-- The board has the roles of the participants whose boards were joined, and is lawful for their
-- books.
pub record AreJoined (words : SharedBoard) (O : Opening) (s : HubSettings) (slots : List Book)
    (done : List SharedBoard) (whole : SharedBoard) : Type 0 where
  pub one : AtOneTable words whole
  pub role : (p : ℕ) → p < length done → has_role whole p
  pub member : (p : ℕ) (x : Book) → p < length done → slice_get slots p ≡ Some x →
      IsMemberBook settings_of knows has_role whole s O p x

-- The same board later: it knows more, and is lawful for what it was lawful for.
pub record IsToldMore (a b : SharedBoard) : Type 0 where
  pub stays : Stays a b
  pub kept : (f : Fact) → knows a f → knows b f
  pub lawful : (x : Book) → IsLawfulBoard settings_of knows has_role a x →
      IsLawfulBoard settings_of knows has_role b x
