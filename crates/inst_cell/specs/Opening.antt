-- The boards and sights of a hub that opens. First one board has the roles of all participants and
-- knows of no place; then each participant's board gets that role alone, and knows what the one
-- board knew. The sights have no role. A choice of this hub.
use Rattle.std.specs.Prelude.{◌≡◌, ◌↔◌, ℕ, ◌≤◌, List, [], length, slice_get, Some}
use Rattle.atomic_table.specs.Seated.{TableId}
use Rattle.atomic_table.specs.Table.{Splits}
use Rattle.inst_settings.specs.Settings.{HubSettings, participants}
use Rattle.inst_board.specs.declared.about.Fact.{Fact}
use Rattle.inst_cell.specs.declared.shared_board.SharedBoard.{SharedBoard}
use Rattle.inst_cell.specs.declared.sight.Sight.{Sight}
use Rattle.inst_cell.specs.declared.view.View.{View}
use Rattle.inst_cell.specs.View.{KnowsOne, roles_from}
use Rattle.inst_cell.specs.Rule.{IsKeptBoard}
use Rattle.inst_cell.specs.Held.{settings_of, table_of, roles_of, has_role, knows}
use Rattle.inst_cell.specs.Seen.{board_of_sight, sight_knows}
use Rattle.inst_cell.specs.declared.shared_board.opening.TheConstants.{MOST_TELLERS}

-- The numbers of tellers that a hub may open with.
abbrev pub MayOpen : ℕ → Type 0
MayOpen tellers = (1 ≤ tellers) × (tellers ≤ MOST_TELLERS)

-- The board has the roles of all participants, in their order.
abbrev pub HasAllRoles : SharedBoard → Type 0
HasAllRoles b = roles_of b ≡ roles_from 0 (participants (settings_of b))

-- The board with all roles at the start: it knows nothing.
pub record IsWhole (s : HubSettings) (b : SharedBoard) : Type 0 where
  pub settings : settings_of b ≡ s
  pub roles : HasAllRoles b
  pub nothing : (f : Fact) → ¬ knows b f

-- The board of participant p over this table: it has that role alone, and knows exactly these
-- facts.
pub record IsDealt (s : HubSettings) (id : TableId) (facts : Fact →
    Type 0) (p : ℕ) (b : SharedBoard) : Type 0 where
  pub settings : settings_of b ≡ s
  pub table : table_of b ≡ id
  pub role : (q : ℕ) → has_role b q ↔ (q ≡ p)
  pub known : (f : Fact) → knows b f ↔ facts f

-- The board of p at an opening: it knows nothing.
abbrev pub IsOpened : HubSettings → TableId → ℕ → SharedBoard → Type 0
IsOpened s id p b = IsDealt s id (λ f. ⊥) p b

-- The sight of a teller at an opening: it has no role and knows nothing.
pub record IsAdmitted (s : HubSettings) (id : TableId) (t : Sight) : Type 0 where
  pub settings : settings_of (board_of_sight t) ≡ s
  pub table : table_of (board_of_sight t) ≡ id
  pub roles : roles_of (board_of_sight t) ≡ []
  pub nothing : (f : Fact) → ¬ sight_knows t f

-- One board for each participant, by number. Each knows what `all` knew.
pub record AreDealt (all : SharedBoard) (boards : List SharedBoard) : Type 0 where
  pub enough : length boards ≡ participants (settings_of all)
  pub each : (p : ℕ) (b : SharedBoard) → slice_get boards p ≡ Some b →
      IsDealt (settings_of all) (table_of all) (knows all) p b

-- n sights over the table of `all`. They know nothing.
pub record AreAdmitted (all : SharedBoard) (n : ℕ) (sights : List Sight) : Type 0 where
  pub enough : length sights ≡ n
  pub each : (i : ℕ) (t : Sight) → slice_get sights i ≡ Some t →
      IsAdmitted (settings_of all) (table_of all) t

-- One table, a board for each participant, by number, and n sights. None knows anything.
pub record AreOpened (s : HubSettings) (n : ℕ) (boards : List SharedBoard) (sights : List Sight) :
    Type 0 where
  pub table : TableId
  pub participants : length boards ≡ participants s
  pub board : (p : ℕ) (b : SharedBoard) → slice_get boards p ≡ Some b → IsOpened s table p b
  pub enough : length sights ≡ n
  pub sight : (i : ℕ) (t : Sight) → slice_get sights i ≡ Some t → IsAdmitted s table t

-- A split of a seat's view that the table's rule allows. Both parts keep the hub's places and
-- margin, and know of each place one standing.
pub record CutsView (left right : View → View) : Type 0 where
  pub splits : (hub : HubSettings) (id : ℕ) (view : View) →
      Splits (IsKeptBoard hub) id view (left view) (right view)
  pub places : (view : View) →
      ((left view).places ≡ view.places) × ((right view).places ≡ view.places)
  pub margin : (view : View) →
      ((left view).margin ≡ view.margin) × ((right view).margin ≡ view.margin)
  pub one : (view : View) → KnowsOne view → KnowsOne (left view) × KnowsOne (right view)
