-- Settling a participant's book over a board with all roles: the outcomes of its live transfers,
-- own and forwarded, are booked, and what is pending for it is delivered. Nothing is decided, and
-- nothing new is known. No clause says in which order. A choice of this hub.
use Rattle.std.specs.Prelude.{◌≡◌, ◌⊎◌, ℕ, ◌<◌, Contains, Some}
use Rattle.inst_settings.specs.Settings.{HubSettings, participants}
use Rattle.inst_command.specs.declared.outcome.Outcome.{Outcome}
use Rattle.inst_terms.specs.declared.terms.Terms.{Terms}
use Rattle.inst_command.specs.declared.place.Place.{Place}
use Rattle.inst_board.specs.declared.about.About.TheVariants.{Opened, HasTerms, Decided}
use Rattle.inst_board.specs.declared.about.Fact.{Fact}
use Rattle.inst_board.specs.Standing.{about}
use Rattle.inst_board.specs.Learning.{KnowTheSame}
use Rattle.inst_journal.specs.Opened.{live_taken, carried}
use Rattle.inst_model.specs.Closing.{OnlyTold}
use Rattle.inst_slot.specs.declared.arrival.Arrival.{Arrival}
use Rattle.inst_slot.specs.Book.{Book, place_at}
use Rattle.inst_slot.specs.LawfulBoard.{IsLawfulBoard, KeepsOthers, AllAreAdopted}

-- The board has the roles of all participants, and what it knows to be opened is addressed to one
-- of them. The places of an originator were opened in order.
pub record HasAll {B : Type 0} (settings : B → HubSettings) (knows : B → Fact →
    Type 0) (has_role : B → ℕ → Type 0) (b : B) : Type 0 where
  pub role : (p : ℕ) → p < participants (settings b) → has_role b p
  pub addressed : (k : Place) (t : Terms) → knows b (about k Opened) →
      knows b (about k (HasTerms t)) → has_role b t.to
  pub in_order : (k : Place) (index : ℕ) → index < k.index → knows b (about k Opened) →
      knows b (about (place_at k.owner index) Opened)

-- The book of a participant over such a board, which is lawful for it.
pub record IsReadyToSettle {B : Type 0} (settings : B → HubSettings) (knows : B → Fact →
    Type 0) (has_role : B → ℕ → Type 0)
    (b : B) (x : Book) : Type 0 where
  pub participant : x.who < participants (settings b)
  pub lawful : IsLawfulBoard settings knows has_role b x
  pub adopted : AllAreAdopted x
  pub all : HasAll settings knows has_role b

-- From book x over board b to book y over board c.
-- - told: only deliveries and bookings were added.
-- - known: nothing new is known.
-- - still, since: its own live transfers and the carried events are unchanged.
-- - came: a newly delivered transfer isn't known to be decided.
-- - others: the books of the others stay lawful.
pub record IsLater {B : Type 0} (settings : B → HubSettings) (knows : B → Fact →
    Type 0) (has_role : B → ℕ → Type 0)
    (stays : B → B → Type 0) (b : B) (x : Book) (c : B) (y : Book) : Type 0 where
  pub settings_are : y.settings ≡ x.settings
  pub who_is : y.who ≡ x.who
  pub told : OnlyTold x.events y.events
  pub known : KnowTheSame knows b c
  pub still : live_taken x.who y.events ≡ live_taken x.who x.events
  pub since : carried y.events ≡ carried x.events
  pub came : (z : Arrival) → Contains y.arrivals z → Contains x.arrivals z
      ⊎ ((index : ℕ) (o : Outcome) → z.index ≡ Some index →
      ¬ knows b (about (place_at z.entry.from index) (Decided o)))
  pub others : KeepsOthers settings knows has_role b x.who c
  pub stays_on : stays b c
