-- The relation between a participant's books and what its board's holder knows, between any two
-- calls of its slot. A choice of this hub.
use Rattle.std.specs.Prelude.{◌≡◌, ◌≢◌, ◌⊎◌, ℕ, ◌<◌, true, is_some, List, length, slice_get, map}
use Rattle.std.specs.Prelude.{Contains, Some}
use Rattle.inst_base.specs.TimeLimit.{deadline_of}
use Rattle.inst_settings.specs.Settings.{HubSettings}
use Rattle.inst_command.specs.declared.outcome.Outcome.{Outcome}
use Rattle.inst_terms.specs.declared.terms.Terms.{Terms}
use Rattle.inst_command.specs.declared.place.Place.{Place}
use Rattle.inst_board.specs.declared.about.About.TheVariants.{Opened, HasTerms, Decided}
use Rattle.inst_board.specs.declared.about.Fact.{Fact}
use Rattle.inst_board.specs.Standing.{about}
use Rattle.inst_board.specs.Laws.{KnowsOpening}
use Rattle.inst_board.specs.Learning.{IsAnswer, KnowsTruly}
use Rattle.inst_journal.specs.declared.event.Event.TheVariants.{Taken}
use Rattle.inst_journal.specs.Booked.{is_forwarded, booked}
use Rattle.inst_journal.specs.Opened.{is_live, live_taken}
use Rattle.inst_slot.specs.declared.arrival.Arrival.{Arrival}
use Rattle.inst_slot.specs.Book.{Book, place_at, terms_to, live_inbox, arrived_at}

-- The own live transfer at this index has this identifier.
pub record IsTakenAt (book : Book) (id : List ℕ) (index : ℕ) : Type 0 where
  pub to : ℕ
  pub cents : ℕ
  pub stamp : ℕ
  pub there : slice_get (live_taken book.who book.events) index ≡ Some (Taken id to cents stamp)

-- The live transfer has this index among its originator's places: it was taken there, or forwarded
-- from there.
abbrev pub LiesAt : Book → ℕ → List ℕ → ℕ → Type 0
LiesAt book from id index =
    ((from ≡ book.who) × IsTakenAt book id index) ⊎ (arrived_at from id book.arrivals ≡ Some index)

-- The outcome of the transfer is known, at its place.
pub record KnowsEnd {B : Type 0} (knows : B → Fact →
    Type 0) (b : B) (book : Book) (from : ℕ) (id : List ℕ)
    (outcome : Outcome) : Type 0 where
  pub index : ℕ
  pub lies : LiesAt book from id index
  pub known : knows b (about (place_at from index) (Decided outcome))

-- The books are lawful over the board.
--
-- - same_settings, role: the board is of the slot's hub, and its holder has the participant's role
-- - truly: what is known of each place is true of one lawful state of it (Standing)
-- - taken_known, only_taken: the own live transfers are, in order, the places that it opened
-- - arrived: there is an arrival for each live forwarded transfer, in order
-- - forwarded_known: an arrival with a place is known opened, with the participant as beneficiary
-- - booked_known: the booked outcome of a live transfer is known
-- - answered: a place for the participant that is known accepted or rejected is booked
pub record IsLawfulBoard {B : Type 0} (settings : B → HubSettings) (knows : B → Fact →
    Type 0) (has_role : B → ℕ → Type 0)
    (b : B) (book : Book) : Type 0 where
  pub same_settings : settings b ≡ book.settings
  pub role : has_role b book.who
  pub truly : (k : Place) → KnowsTruly book.settings.margin knows b k
  pub taken_known : (index : ℕ) (id : List ℕ) (to cents stamp : ℕ) →
      slice_get (live_taken book.who book.events) index ≡ Some (Taken id to cents stamp) →
      KnowsOpening knows b (place_at book.who index) (terms_to to cents id)
      (deadline_of book.settings.limit stamp)
  pub only_taken : (index : ℕ) → knows b (about (place_at book.who index) Opened) →
      index < length (live_taken book.who book.events)
  pub arrived : map (λ x. x.entry) book.arrivals ≡ live_inbox book.events
  pub forwarded_known : (x : Arrival) (index : ℕ) → Contains book.arrivals x →
      x.index ≡ Some index →
      KnowsOpening knows b (place_at x.entry.from index)
      (terms_to book.who x.entry.cents x.entry.id) x.entry.deadline
  pub booked_known : (from : ℕ) (id : List ℕ) (outcome : Outcome) →
      booked from id book.events ≡ Some outcome →
      is_live from id book.events ≡ true → KnowsEnd knows b book from id outcome
  pub answered : (k : Place) (t : Terms) (outcome : Outcome) → t.to ≡ book.who → IsAnswer outcome →
      knows b (about k (HasTerms t)) → knows b (about k (Decided outcome)) →
      booked k.owner t.id book.events ≡ Some outcome

-- The books of every other participant that were lawful over board b are lawful over c.
abbrev pub KeepsOthers : {B : Type 0} → (B → HubSettings) → (B → Fact → Type 0) → (B → ℕ → Type 0) →
    B → ℕ → B → Type 0
KeepsOthers settings knows has_role b who c =
    (book : Book) → book.who ≢ who → IsLawfulBoard settings knows has_role b book →
    IsLawfulBoard settings knows has_role c book

-- The place of this transfer is known, if it is live and was forwarded.
abbrev pub IsAdopted : Book → ℕ → List ℕ → Type 0
IsAdopted book from id =
    is_forwarded from id book.events ≡ true → is_live from id book.events ≡ true →
    is_some (arrived_at from id book.arrivals) ≡ true

-- The places of all arrivals are known.
abbrev pub AllAreAdopted : Book → Type 0
AllAreAdopted book = (x : Arrival) → Contains book.arrivals x → is_some x.index ≡ true

-- After a call of a slot all books are still lawful.
--
-- - lawful, others: the slot's own books, and those of every other participant
-- - same: the book is of the same hub and participant
-- - adopted: if all places were known, they still are
-- - holder: the board has the same holder
pub record KeepsLawful {B : Type 0} (settings : B → HubSettings) (knows : B → Fact → Type 0)
    (has_role : B → ℕ → Type 0) (stays : B → B → Type 0) (b : B) (old : Book) (c : B)
    (new : Book) : Type 0 where
  pub lawful : IsLawfulBoard settings knows has_role c new
  pub others : KeepsOthers settings knows has_role b old.who c
  pub same : (new.settings ≡ old.settings) × (new.who ≡ old.who)
  pub adopted : AllAreAdopted old → AllAreAdopted new
  pub holder : stays b c

-- The books of all other participants are still lawful, and the board has the same holder.
pub record LeavesOthers {B : Type 0} (settings : B → HubSettings) (knows : B → Fact → Type 0)
    (has_role : B → ℕ → Type 0) (stays : B → B → Type 0) (b : B) (who : ℕ) (c : B)
    : Type 0 where
  pub others : KeepsOthers settings knows has_role b who c
  pub holder : stays b c
