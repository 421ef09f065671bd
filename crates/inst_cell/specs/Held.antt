-- What a shared board has and knows: its roles, and the places that it knows, with their terms,
-- deadlines and outcomes. Roles and seats are a choice of this hub.
use Rattle.std.proofs.Common.{sym, subst}
use Rattle.std.specs.Prelude.{◌≡◌, ◌⊎◌, ◌↔◌, ℕ, ◌<◌, List, Contains}
use Rattle.std.specs.Arc.{arc_value}
use Rattle.atomic_table.specs.Seated.{TableId}
use Rattle.inst_command.specs.declared.outcome.Outcome.{Outcome}
use Rattle.inst_command.specs.declared.outcome.Outcome.TheVariants.{TimedOut}
use Rattle.inst_settings.specs.Settings.{HubSettings}
use Rattle.inst_terms.specs.declared.terms.Terms.{Terms}
use Rattle.inst_terms.specs.Terms.{IsTerms}
use Rattle.inst_command.specs.declared.place.Place.{Place}
use Rattle.inst_board.specs.declared.about.About.TheVariants.{HasTerms, Decided}
use Rattle.inst_board.specs.declared.about.Fact.{Fact}
use Rattle.inst_board.specs.Standing.{IsPlace, about}
use Rattle.inst_board.specs.Plain.{place_number}
use Rattle.inst_cell.specs.declared.view.View.{View}
use Rattle.inst_cell.specs.declared.shared_board.SharedBoard.{SharedBoard}
use Rattle.inst_cell.specs.View.{known, all_that_is_known, count, HasNoted}

-- The settings of the hub.
abbrev pub settings_of : SharedBoard → HubSettings
settings_of b = (arc_value b.table).shared.key.value

-- The identity of the board's table of words.
abbrev pub table_of : SharedBoard → TableId
table_of b = b.seat.table_id

-- What the board's seat has and knows.
abbrev pub view_of : SharedBoard → View
view_of b = b.seat.me.0

-- The participants whose roles the board has.
abbrev pub roles_of : SharedBoard → List ℕ
roles_of b = (view_of b).roles

-- A view contains a fact about a place that the settings have.
abbrev pub knows_at : HubSettings → View → Fact → Type 0
knows_at s v f = IsPlace s f.place
    × Contains (all_that_is_known v) (known (place_number s f.place) f.about)

-- The board knows the fact.
abbrev pub knows : SharedBoard → Fact → Type 0
knows b f = knows_at (settings_of b) (view_of b) f

-- The board has the role of participant p.
abbrev pub has_role : SharedBoard → ℕ → Type 0
has_role b p = 0 < count p (roles_of b)

-- The board's last stores to the five terms words of the place were the words of these terms.
abbrev pub wrote : SharedBoard → Place → Terms → Type 0
wrote b k t =
    IsPlace (settings_of b) k × IsTerms t × HasNoted (view_of b) (place_number (settings_of b) k) t

-- The outcome may have been decided before: a board with the beneficiary's role knows it, or it is
-- a time-out.
abbrev pub stood : SharedBoard → Place → Outcome → Type 0
stood b k o = (t : Terms) → knows b (about k (HasTerms t)) → has_role b t.to →
    knows b (about k (Decided o)) ⊎ (o ≡ TimedOut)

-- Both boards share one table and one hub's settings.
abbrev pub AtOneTable : SharedBoard → SharedBoard → Type 0
AtOneTable a b = (table_of b ≡ table_of a) × (settings_of b ≡ settings_of a)

-- b is the same board as a, later: same words, same settings, same roles.
pub record Stays (a b : SharedBoard) : Type 0 where
  pub settings : settings_of b ≡ settings_of a
  pub table : table_of b ≡ table_of a
  pub roles : roles_of b ≡ roles_of a

-- A board keeps its roles.
pub roles_same : (a b : SharedBoard) (p : ℕ) → Stays a b → has_role a p ↔ has_role b p
roles_same a b p stays = (
  λ h. subst (λ (roles : List ℕ). 0 < count p roles) (sym stays.roles) h,
  λ h. subst (λ (roles : List ℕ). 0 < count p roles) stays.roles h,
)
