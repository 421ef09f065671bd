-- The books of all participants over one board with all roles: what a hub is taken apart into, and
-- how one book after another is settled. A choice of this hub.
use Rattle.std.specs.Prelude.{◌≡◌, ℕ, ◌<◌, List, slice_get, Some}
use Rattle.inst_settings.specs.Settings.{HubSettings, participants}
use Rattle.inst_board.specs.declared.about.Fact.{Fact}
use Rattle.inst_board.specs.Learning.{KnowTheSame}
use Rattle.inst_model.specs.Closing.{OnlyTold}
use Rattle.inst_model.specs.Opening.{Opening, IsOpening}
use Rattle.inst_slot.specs.Book.{Book}
use Rattle.inst_participant.specs.Together.{histories, AreTogether, HasSettledAll}

-- The books of the participants, by number, of a hub with this opening.
pub record AreParts {B : Type 0} (settings : B → HubSettings) (knows : B → Fact →
    Type 0) (has_role : B → ℕ → Type 0)
    (b : B) (O : Opening) (books : List Book) : Type 0 where
  pub opening : IsOpening (settings b) O
  pub together : AreTogether settings knows has_role b (settings b) O books
  pub roles : (p : ℕ) → p < participants (settings b) → has_role b p

-- The book of participant p is settled.
abbrev pub IsSettledAt : {B : Type 0} → (B → Fact → Type 0) → B → ℕ → List Book → Type 0
IsSettledAt knows b p books = (book : Book) → slice_get books p ≡ Some book →
    HasSettledAll knows b book

-- From the books over board b to the others over board c.
-- - parts: they are books of the same hub.
-- - told: only deliveries and bookings were added.
-- - known: nothing new is known.
pub record AreLaterParts {B : Type 0} (settings : B → HubSettings) (knows : B → Fact →
    Type 0) (has_role : B → ℕ → Type 0)
    (stays : B → B → Type 0) (b : B) (books : List Book) (c : B) (others : List Book) : Type 0 where
  pub parts : (O : Opening) → AreParts settings knows has_role b O books →
      AreParts settings knows has_role c O others
  pub told : (p : ℕ) → OnlyTold (histories books p) (histories others p)
  pub known : KnowTheSame knows b c
  pub stays_on : stays b c
