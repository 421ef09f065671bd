-- The tellers of a hub that opens: they have seen how the histories begin, and know of no place. A
-- choice of this hub.
use Rattle.std.specs.Prelude.{◌≡◌, ℕ, zero, suc, List, [], ◌∷◌, length, slice_get, sum_by, Some}
use Rattle.atomic_table.specs.Seated.{TableId}
use Rattle.inst_cell.specs.declared.shared_board.SharedBoard.{SharedBoard}
use Rattle.inst_hub.specs.declared.initial_state.InitialState.{InitialState}
use Rattle.inst_board.specs.declared.about.Fact.{Fact}
use Rattle.inst_cell.specs.declared.sight.Sight.{Sight}
use Rattle.inst_cell.specs.Held.{AtOneTable}
use Rattle.inst_cell.specs.Seen.{board_of_sight, sight_knows}
use Rattle.inst_journal.specs.declared.event.Event.{Event}
use Rattle.inst_row.specs.declared.view.Front.{Front}
use Rattle.inst_row.specs.View.{front}
use Rattle.inst_row.specs.Row.{row_id, key_of}
use Rattle.inst_row.specs.Seated.{IsOn, IsFree, view_of}
use Rattle.inst_settings.specs.Settings.{participants}
use Rattle.inst_hub.specs.declared.hub.Hub.{Hub}
use Rattle.inst_hub.specs.declared.teller.Teller.{Teller}
use Rattle.inst_hub.specs.Calls.{AreOf}
use Rattle.inst_row.specs.declared.row.TheConstants.{MOST_SEATS}

-- A sight over these words that knows of no place.
pub record IsBlank (words : SharedBoard) (t : Sight) : Type 0 where
  pub one : AtOneTable words (board_of_sight t)
  pub nothing : (f : Fact) → ¬ sight_knows t f

-- The histories of n participants, from p on.
abbrev pub fronts_from : (ℕ → List Event) → ℕ → ℕ → List (Front Event)
fronts_from J p zero = []
fronts_from J p (suc n) = front p (J p) ∷ fronts_from J (suc p) n

-- What is seen of n participants with these histories.
abbrev pub first_fronts : ℕ → (ℕ → List Event) → List (Front Event)
first_fronts n J = fronts_from J 0 n

-- A teller of a hub that opens: it may take a lock, and has seen these histories.
pub record IsNew (id : TableId) (key : InitialState) (fronts : List (Front Event)) (t : Teller) :
    Type 0 where
  pub on : IsOn id key t.seat
  pub free : IsFree t.seat
  pub seen : (view_of t.seat).fronts ≡ fronts
  pub blank : IsBlank key.words.value t.sight

-- Such tellers.
abbrev pub AreNew : TableId → InitialState → List (Front Event) → List Teller → Type 0
AreNew id key fronts tellers =
    (i : ℕ) (t : Teller) → slice_get tellers i ≡ Some t → IsNew id key fronts t

-- The parts of the row that these tellers have.
abbrev pub row_parts : List Teller → ℕ
row_parts tellers = sum_by (λ t. (view_of t.seat).parts) tellers

-- The tellers have all parts of the row.
abbrev pub HaveAllParts : List Teller → Type 0
HaveAllParts tellers = row_parts tellers ≡ MOST_SEATS

-- So many tellers of a hub that opens, with all parts of its row. They have seen these histories,
-- and know of no place.
pub record AreFirstTellers (hub : Hub) (tellers : ℕ) (J : ℕ → List Event) (all : List Teller)
    : Type 0 where
  pub enough : length all ≡ tellers
  pub of : AreOf hub all
  pub new : AreNew (row_id hub.row) (key_of hub.row)
      (first_fronts (participants hub.settings) J) all
  pub parts : HaveAllParts all
