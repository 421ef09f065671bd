-- Opening a slot again from its books. Its own live transfers get the first places in the order of
-- taking, with their terms and deadlines. Forwarded ones get their places one by one, by adoption.
-- A choice of this hub.
use Rattle.std.specs.Prelude.{◌≡◌, ◌↔◌, ◌⊎◌, ℕ, Bool, false, ◌&&◌, ◌==◌, is_none, if◌then◌else◌}
use Rattle.std.specs.Prelude.{List, [], ◌∷◌, ◌++◌, map, count_by, slice_get, Some, None}
use Rattle.std.specs.List.{list_any}
use Rattle.inst_base.specs.TimeLimit.{deadline_of}
use Rattle.inst_settings.specs.Settings.{HubSettings}
use Rattle.inst_command.specs.declared.entry.Entry.{Entry}
use Rattle.inst_command.specs.declared.outcome.Outcome.{Outcome}
use Rattle.inst_terms.specs.declared.terms.Terms.{Terms}
use Rattle.inst_command.specs.declared.place.Place.{Place}
use Rattle.inst_board.specs.declared.look.Look.{Look}
use Rattle.inst_board.specs.declared.look.Look.TheVariants.{Pending}
use Rattle.inst_board.specs.declared.about.About.{About}
use Rattle.inst_board.specs.declared.about.About.TheVariants.{Opened as IsOpened, HasTerms, Decided}
use Rattle.inst_board.specs.declared.about.Fact.{Fact}
use Rattle.inst_board.specs.Standing.{Says, pending, about}
use Rattle.inst_board.specs.Learning.{IsAnswer, KnowsTruly}
use Rattle.inst_journal.specs.declared.event.Event.{Event}
use Rattle.inst_journal.specs.declared.event.Event.TheVariants.{Taken, Opened}
use Rattle.inst_journal.specs.Booked.{same_transfer}
use Rattle.inst_journal.specs.Opened.{HasOpeningsLeft, live_taken}
use Rattle.inst_journal.specs.Sound.{IsSound}
use Rattle.inst_slot.specs.declared.arrival.Arrival.{Arrival}
use Rattle.inst_slot.specs.Book.{Book, place_at, terms_to, live_inbox}
use Rattle.inst_slot.specs.LawfulBoard.{IsLawfulBoard}

-- A carried transfer whose place isn't known yet.
abbrev pub arrival_without_place : Entry → Arrival
arrival_without_place entry = record { entry = entry; index = None }

-- The participant's book, opened again from this history.
abbrev pub opened_again : HubSettings → ℕ → List Event → Book
opened_again settings who J = record {
  settings = settings;
  who = who;
  events = J ++ Opened ∷ [];
  arrivals = map arrival_without_place (live_inbox (J ++ Opened ∷ []));
}

-- The books of `who` may be opened again over the board.
--
-- - same_settings, role: it is of the hub, and its holder has the participant's role
-- - truly: what is known of each place is true of one lawful state of it (Standing)
-- - unopened: no place of the participant is known opened
-- - unanswered: no place for the participant is known accepted or rejected
pub record MayOpenAgain {B : Type 0} (settings : B → HubSettings) (knows : B → Fact →
    Type 0) (has_role : B → ℕ → Type 0)
    (b : B) (hub : HubSettings) (who : ℕ) : Type 0 where
  pub same_settings : settings b ≡ hub
  pub role : has_role b who
  pub truly : (k : Place) → KnowsTruly hub.margin knows b k
  pub unopened : (index : ℕ) → ¬ knows b (about (place_at who index) IsOpened)
  pub unanswered : (k : Place) (t : Terms) (outcome : Outcome) → t.to ≡ who → IsAnswer outcome →
      knows b (about k (HasTerms t)) → ¬ knows b (about k (Decided outcome))

-- The fact is part of the opening of one of these submissions, which have the first places of `who`
-- in their order.
pub record IsOfTakenSubmission (hub : HubSettings) (who : ℕ) (taken : List Event) (f : Fact)
    : Type 0 where
  pub index : ℕ
  pub id : List ℕ
  pub to : ℕ
  pub cents : ℕ
  pub stamp : ℕ
  pub there : slice_get taken index ≡ Some (Taken id to cents stamp)
  pub place_is : f.place ≡ place_at who index
  pub says : Says (pending (terms_to to cents id) (deadline_of hub.limit stamp)) f.about

-- From board b to board c these submissions were opened as the first places of `who`.
--
-- - known: nothing else is learnt, and nothing is forgotten
-- - agrees: what was known of such a place is true of the pending transfer
pub record OpensPlaces {B : Type 0} (knows : B → Fact →
    Type 0) (hub : HubSettings) (who : ℕ) (taken : List Event) (b c : B) : Type 0 where
  pub known : (f : Fact) → knows c f ↔ (knows b f ⊎ IsOfTakenSubmission hub who taken f)
  pub agrees : (index : ℕ) (id : List ℕ) (to cents stamp : ℕ) →
      slice_get taken index ≡ Some (Taken id to cents stamp) →
      (a : About) → knows b (about (place_at who index) a) →
      Says (pending (terms_to to cents id) (deadline_of hub.limit stamp)) a

-- The books are sound, and a hub may open from them once more.
pub record IsReopenable (hub : HubSettings) (who : ℕ) (J : List Event) : Type 0 where
  pub sound : IsSound hub who J
  pub few : HasOpeningsLeft J

-- From board b to board c the slot was opened again from these books.
--
-- - places: its own live transfers got the first places
-- - lawful: its books are lawful over the board
pub record OpensAgain {B : Type 0} (settings : B → HubSettings) (knows : B → Fact → Type 0)
    (has_role : B → ℕ → Type 0) (b : B) (hub : HubSettings) (who : ℕ) (J : List Event) (c : B)
    (slot : Book) : Type 0 where
  pub slot_is : slot ≡ opened_again hub who J
  pub places : OpensPlaces knows hub who (live_taken who slot.events) b c
  pub lawful : IsLawfulBoard settings knows has_role c slot

-- True if the arrival is of this transfer.
abbrev pub is_arrival_of : ℕ → List ℕ → Arrival → Bool
is_arrival_of from id arrival = same_transfer from id arrival.entry.from arrival.entry.id

-- True if the place of the arrival isn't known yet.
abbrev pub is_unfound : Arrival → Bool
is_unfound arrival = is_none arrival.index

-- True if the arrival has no place yet and its transfer is the one pending at this place.
abbrev pub awaits : Place → Terms → ℕ → Arrival → Bool
awaits k t deadline arrival =
    is_arrival_of k.owner t.id arrival && is_unfound arrival && (arrival.entry.cents == t.cents)
    && (arrival.entry.deadline == deadline)

-- The number of carried transfers whose places aren't known yet.
abbrev pub unfound : Book → ℕ
unfound book = count_by is_unfound book.arrivals

-- True if a look at the place shows a carried transfer for the participant that awaits its place.
abbrev pub finds_carried : Book → Place → Look → Bool
finds_carried book k (Pending t deadline) =
    (t.to == book.who) && list_any (awaits k t deadline) book.arrivals
finds_carried book k _ = false

-- The arrival, with this place if it awaits it.
abbrev pub arrival_found_at : Place → Terms → ℕ → Arrival → Arrival
arrival_found_at k t deadline arrival =
    if awaits k t deadline arrival then record { entry = arrival.entry; index = Some k.index }
    else arrival

-- The book after a look at the place.
abbrev pub with_found : Book → Place → Look → Book
with_found book k (Pending t deadline) =
    if t.to == book.who
    then record book { arrivals = map (arrival_found_at k t deadline) book.arrivals }
    else book
with_found book k _ = book
