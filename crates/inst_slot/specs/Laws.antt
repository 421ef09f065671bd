-- Laws of slots over boards (inst_slot::laws). Promises of this hub.
use Rattle.std.specs.Prelude.{◌≡◌, ◌≢◌, ◌↔◌, ℕ, List, [], Some}
use Rattle.inst_settings.specs.Settings.{HubSettings}
use Rattle.inst_terms.specs.declared.terms.Terms.{Terms}
use Rattle.inst_command.specs.declared.place.Place.{Place}
use Rattle.inst_board.specs.declared.about.Fact.{Fact}
use Rattle.inst_board.specs.Laws.{KnowsOpening}
use Rattle.inst_journal.specs.Opened.{live_taken}
use Rattle.inst_slot.specs.Book.{Book, place_of}
use Rattle.inst_slot.specs.LawfulBoard.{IsLawfulBoard}
use Rattle.inst_slot.specs.Opening.{MayOpenAgain, OpensPlaces}

-- New books are lawful over a board of which nothing is known.
abbrev pub NewBooksAreLawful : {B : Type 0} → (B → HubSettings) → (B → Fact → Type 0) →
    (B → ℕ → Type 0) → Type 0
NewBooksAreLawful {B} settings knows has_role =
    (b : B) (book : Book) → settings b ≡ book.settings → has_role b book.who →
    ((f : Fact) → ¬ knows b f) → book.events ≡ [] → book.arrivals ≡ [] →
    IsLawfulBoard settings knows has_role b book

-- The place is known opened, with terms of this identifier.
pub record KnowsTransfer {B : Type 0} (knows : B → Fact →
    Type 0) (b : B) (id : List ℕ) (k : Place) : Type 0 where
  pub terms : Terms
  pub deadline : ℕ
  pub id_is : terms.id ≡ id
  pub known : KnowsOpening knows b k terms deadline

-- The place that a slot returns for a transfer is known opened, with its identifier.
abbrev pub AToldPlaceIsKnown : {B : Type 0} → (B → HubSettings) → (B → Fact → Type 0) →
    (B → ℕ → Type 0) → Type 0
AToldPlaceIsKnown {B} settings knows has_role =
    (b : B) (book : Book) (from : ℕ) (id : List ℕ) (k : Place) →
    IsLawfulBoard settings knows has_role b book → place_of book from id ≡ Some k →
    KnowsTransfer knows b id k

-- Over a board of which nothing is known, the books of any participant may be opened again.
abbrev pub AnyMayOpenFirst : {B : Type 0} → (B → HubSettings) → (B → Fact → Type 0) →
    (B → ℕ → Type 0) → Type 0
AnyMayOpenFirst {B} settings knows has_role =
    (b : B) (who : ℕ) → has_role b who → ((f : Fact) → ¬ knows b f) →
    MayOpenAgain settings knows has_role b (settings b) who

-- After the books of one participant were opened again, those of another still may be.
abbrev pub OthersMayOpen : {B : Type 0} → (B → HubSettings) → (B → Fact → Type 0) →
    (B → ℕ → Type 0) → (B → B → Type 0) → Type 0
OthersMayOpen {B} settings knows has_role stays =
    (b c : B) (book : Book) (other : ℕ) → stays b c → other ≢ book.who →
    OpensPlaces knows book.settings book.who (live_taken book.who book.events) b c →
    IsLawfulBoard settings knows has_role c book →
    MayOpenAgain settings knows has_role b book.settings other →
    MayOpenAgain settings knows has_role c book.settings other

-- Books that are lawful over board b are lawful over c, which may be of another kind: it is of the
-- same hub, and its holder has the participant's role and knows what the holder of b knows.
abbrev pub LawfulWhereTheSameIsKnown : {B C : Type 0} → (B → HubSettings) → (B → Fact → Type 0) →
    (B → ℕ → Type 0) →
    (C → HubSettings) → (C → Fact → Type 0) → (C → ℕ → Type 0) → Type 0
LawfulWhereTheSameIsKnown {B} {C} settings knows has_role settings_c knows_c role_c =
    (b : B) (c : C) (book : Book) →
    settings_c c ≡ settings b → role_c c book.who → ((f : Fact) → knows_c c f ↔ knows b f) →
    IsLawfulBoard settings knows has_role b book → IsLawfulBoard settings_c knows_c role_c c book
