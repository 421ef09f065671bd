-- What is left of a hub when it closes, as its tellers see it: the books extend all that they have
-- seen, by deliveries and bookings only, and have all that they knew. A choice of this hub.
use Rattle.std.specs.Prelude.{◌≡◌, ◌≢◌, ℕ, ◌<◌, List, [], ◌∷◌, ◌++◌, slice_get, Some}
use mathlib.Core.List.{IsPrefix}
use Rattle.inst_settings.specs.Settings.{participants}
use Rattle.inst_command.specs.declared.outcome.Outcome.{Outcome}
use Rattle.inst_command.specs.declared.outcome.State.TheVariants.{Unused, Decided}
use Rattle.inst_terms.specs.declared.terms.Terms.{Terms}
use Rattle.inst_command.specs.declared.place.Place.{Place}
use Rattle.inst_board.specs.declared.about.About.TheVariants.{Opened, HasTerms}
use Rattle.inst_board.specs.declared.about.About.TheVariants.{Decided as IsDecided}
use Rattle.inst_board.specs.declared.about.Fact.{Fact}
use Rattle.inst_board.specs.Standing.{about}
use Rattle.inst_cell.specs.Held.{knows}
use Rattle.inst_journal.specs.declared.event.Event.{Event}
use Rattle.inst_journal.specs.declared.event.Event.TheVariants.{Opened as AnOpening}
use Rattle.inst_journal.specs.Opened.{carried}
use Rattle.inst_model.specs.Closing.{OnlyTold}
use Rattle.inst_model.specs.Opening.{Opening, FromBooks, IsOpening, beginning}
use Rattle.inst_slot.specs.Book.{Book}
use Rattle.inst_participant.specs.Together.{histories}
use Rattle.inst_row.specs.declared.view.Front.{Front}
use Rattle.inst_row.specs.Row.{row_id, key_of}
use Rattle.inst_row.specs.Seated.{HasSeen}
use Rattle.inst_participant.specs.InTheBooks.{state_in_books, IsTakenWith}
use Rattle.inst_participant.specs.declared.parts.Parts.{Parts}
use Rattle.inst_participant.specs.Apart.{IsPartsOf, histories_of, board_of, hub_of}
use Rattle.inst_hub.specs.declared.hub.Hub.{Hub}
use Rattle.inst_hub.specs.declared.teller.Teller.{Teller}
use Rattle.inst_hub.specs.Calls.{knows_of, AreOf}
use Rattle.inst_hub.specs.Closing.{OneHasSeen}
use Rattle.inst_hub.specs.Opening.{HaveAllParts, AreNew, first_fronts}
use Rattle.inst_hub.specs.Founding.{HasOpenedHub}
use Rattle.inst_close.specs.declared.closing.Rest.{Rest}
use Rattle.inst_close.specs.declared.closing.Rest.TheVariants.{Whole, Apart}
use Rattle.inst_close.specs.declared.closing.CloseFault.{CloseFault}
use Rattle.inst_close.specs.declared.closing.CloseFault.TheVariants.{Memory}
use Rattle.inst_close.specs.ClosedHub.{ClosedHub}

-- The hub has this opening, and could be opened so.
abbrev pub IsOpenedSo : Opening → Hub → Type 0
IsOpenedSo O h = IsOpening h.settings O × HasOpenedHub O h

-- The books have this opening, and none after it.
abbrev pub HaveOpened : Opening → ClosedHub → Type 0
HaveOpened O closed =
    (p : ℕ) → p < participants closed.settings → carried (histories closed.books p) ≡ beginning O p

-- The histories of n participants extend all that the tellers have seen of them.
abbrev pub GoOnFrom : List Teller → ℕ → (ℕ → List Event) → Type 0
GoOnFrom tellers n J =
    (i : ℕ) (t : Teller) (p : ℕ) (h : List Event) → slice_get tellers i ≡ Some t → p < n →
    HasSeen p h t.seat → IsPrefix h (J p)

-- Each history of n participants is one that a teller has seen, followed by deliveries and bookings
-- only.
abbrev pub AreOnlyTold : List Teller → ℕ → (ℕ → List Event) → Type 0
AreOnlyTold tellers n J =
    (p : ℕ) → p < n → (h : List Event) × OneHasSeen tellers p h × OnlyTold h (J p)

-- The books have all that the teller knew of the place.
pub record IsToldAs (t : Teller) (J : ℕ → List Event) (k : Place) : Type 0 where
  pub used : state_in_books J k ≢ Unused
  pub terms : (x : Terms) → knows_of t (about k (HasTerms x)) → IsTakenWith J k x
  pub outcome : (o : Outcome) → knows_of t (about k (IsDecided o)) → state_in_books J k ≡ Decided o

-- The same for each place that a teller knew to be opened.
abbrev pub TellAll : List Teller → (ℕ → List Event) → Type 0
TellAll tellers J =
    (i : ℕ) (t : Teller) (k : Place) → slice_get tellers i ≡ Some t → knows_of t (about k Opened) →
    IsToldAs t J k

-- The parts are those of the hub with these tellers.
pub record AreOfHub (h : Hub) (tellers : List Teller) (parts : Parts) : Type 0 where
  pub settings : hub_of parts ≡ h.settings
  pub opened : (O : Opening) → IsOpenedSo O h → IsPartsOf O parts
  pub goes_on : GoOnFrom tellers (participants h.settings) (histories_of parts)
  pub only_told : AreOnlyTold tellers (participants h.settings) (histories_of parts)
  pub knows : (i : ℕ) (t : Teller) (f : Fact) → slice_get tellers i ≡ Some t → knows_of t f →
      knows (board_of parts) f

-- What is left of the hub with these tellers: both unchanged, or the hub's parts.
abbrev pub IsLeftOf : Hub → List Teller → Rest → Type 0
IsLeftOf h tellers (Whole hub handed) = (hub ≡ h) × (handed.items ≡ tellers)
IsLeftOf h tellers (Apart parts) = AreOfHub h tellers parts

-- What is left can be closed: all tellers of an opened hub, or the parts of one.
abbrev pub MayClose : Rest → Type 0
MayClose (Whole hub handed) =
    AreOf hub handed.items × HaveAllParts handed.items × ((O : Opening) × IsOpenedSo O hub)
MayClose (Apart parts) = (O : Opening) × IsPartsOf O parts

-- What a failed closing left.
abbrev pub rest_of : CloseFault → Rest
rest_of (Memory rest) = rest

-- The books are those of the hub with these tellers.
pub record IsClosedFrom (h : Hub) (tellers : List Teller) (books : ClosedHub) : Type 0 where
  pub settings : books.settings ≡ h.settings
  pub opened : (O : Opening) → IsOpenedSo O h → HaveOpened O books
  pub goes_on : GoOnFrom tellers (participants h.settings) (histories books.books)
  pub only_told : AreOnlyTold tellers (participants h.settings) (histories books.books)
  pub told : TellAll tellers (histories books.books)

-- The hub was opened from these books.
pub record IsNextOf (books : List Book) (h : Hub) : Type 0 where
  pub from : ℕ → List Event
  pub same : (p : ℕ) → from p ≡ histories books p
  pub opened : IsOpenedSo (FromBooks from) h

-- What is seen of the books once n participants have opened again.
abbrev pub next_fronts : List Book → ℕ → List (Front Event)
next_fronts books n = first_fronts n (λ p. histories books p ++ AnOpening ∷ [])

-- The tellers of a hub that was opened from these books: they have all parts of its row, have seen
-- each book with an opening after it, and know of no place.
pub record AreNextTellers (books : List Book) (h : Hub) (tellers : List Teller) : Type 0 where
  pub of : AreOf h tellers
  pub parts : HaveAllParts tellers
  pub new : AreNew (row_id h.row) (key_of h.row) (next_fronts books (participants h.settings))
      tellers
