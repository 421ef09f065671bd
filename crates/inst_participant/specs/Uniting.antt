-- The participants of a hub with one board each, over one table of words, and the board that
-- results when these are joined. A choice of this hub.
use Rattle.std.specs.Prelude.{◌≡◌, ℕ, List, length, slice_get, Some}
use Rattle.inst_settings.specs.Settings.{HubSettings, participants}
use Rattle.inst_board.specs.declared.about.Fact.{Fact}
use Rattle.inst_cell.specs.declared.shared_board.SharedBoard.{SharedBoard}
use Rattle.inst_cell.specs.declared.sight.Sight.{Sight}
use Rattle.inst_cell.specs.Held.{settings_of, knows, has_role, AtOneTable}
use Rattle.inst_cell.specs.Seen.{board_of_sight, sight_knows}
use Rattle.inst_model.specs.Opening.{Opening, IsOpening}
use Rattle.inst_slot.specs.Book.{Book}
use Rattle.inst_participant.specs.Together.{IsMemberBook}

-- A board over these words that is lawful for the book of participant p of a hub with this opening.
pub record IsSeparate (words : SharedBoard) (O : Opening) (s : HubSettings) (p : ℕ) (x : Book)
    (b : SharedBoard) : Type 0 where
  pub one : AtOneTable words b
  pub member : IsMemberBook settings_of knows has_role b s O p x

-- Such a board for each participant, by number.
pub record AreSeparate (words : SharedBoard) (O : Opening) (s : HubSettings) (slots : List Book)
    (boards : List SharedBoard) : Type 0 where
  pub settings_are : settings_of words ≡ s
  pub opening : IsOpening s O
  pub one_each : length slots ≡ participants s
  pub enough : length boards ≡ participants s
  pub each : (p : ℕ) (x : Book) (b : SharedBoard) → slice_get slots p ≡ Some x →
      slice_get boards p ≡ Some b →
      IsSeparate words O s p x b

-- A board over these words for each participant.
pub record AreAtOne (words : SharedBoard) (s : HubSettings) (slots : List Book)
    (boards : List SharedBoard) : Type 0 where
  pub one_each : length slots ≡ participants s
  pub enough : length boards ≡ participants s
  pub each : (p : ℕ) (b : SharedBoard) → slice_get boards p ≡ Some b → AtOneTable words b

-- Sights over these words.
abbrev pub AreSights : SharedBoard → List Sight → Type 0
AreSights words sights =
    (i : ℕ) (t : Sight) → slice_get sights i ≡ Some t → AtOneTable words (board_of_sight t)

-- One of these boards knows the fact.
abbrev pub OneKnows : List SharedBoard → Fact → Type 0
OneKnows boards f = (p : ℕ) × (b : SharedBoard) × (slice_get boards p ≡ Some b) × knows b f

-- One of these sights knows the fact.
abbrev pub OneSees : List Sight → Fact → Type 0
OneSees sights f = (i : ℕ) × (t : Sight) × (slice_get sights i ≡ Some t) × sight_knows t f
