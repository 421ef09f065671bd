-- Closing a hub: each participant learns the decided outcomes, and pending transfers are delivered
-- (EPC004-16, chapter 4: both participants are told one outcome). There is no command and no
-- expiry, since there is no clock reading. A closing covers all places, in any order and any number
-- of times. The last is a choice of this hub.
use Rattle.std.specs.Prelude.{◌≡◌, ℕ, pos, zero, suc, ◌<◌, Bool, true, false, List, [], ◌∷◌, ◌++◌}
use Rattle.std.specs.Prelude.{Contains}
use Rattle.std.specs.List.{AllByRecursion}
use Rattle.inst_settings.specs.Settings.{HubSettings, participants}
use Rattle.inst_command.specs.Step.{step_fits}
use Rattle.inst_command.specs.declared.step.Step.{Step}
use Rattle.inst_command.specs.declared.step.Step.TheVariants.{Ask, Deliver, Learn, Expire}
use Rattle.inst_journal.specs.declared.event.Event.{Event}
use Rattle.inst_journal.specs.declared.event.Event.TheVariants.{Funded, Defunded, Taken, Forwarded}
use Rattle.inst_journal.specs.declared.event.Event.TheVariants.{Booked, Fetched, Opened}
use Rattle.inst_journal.specs.Money.{position}
use Rattle.inst_journal.specs.Sound.{IsSound}
use Rattle.inst_journal.specs.Sums.{net}
use Rattle.inst_model.specs.Interleaving.{IsInterleaving}
use Rattle.inst_model.specs.Opening.{Opening, IsOpening}
use Rattle.inst_model.specs.Fit.{BooksAreClosed}
use Rattle.inst_model.specs.Hub.{outcome, history}
use Rattle.inst_model.specs.Untold.{sum_over_participants, signed_total, untold}

-- True if the step is a delivery or a learning, which have no clock reading.
abbrev pub is_telling : Step → Bool
is_telling (Ask ask) = false
is_telling (Deliver from index to) = true
is_telling (Learn who from index) = true
is_telling (Expire who index at) = false

-- All steps are deliveries and learnings, and each participant has both for each place.
pub record IsClosing (s : HubSettings) (M : List Step) : Type 0 where
  pub fits : IsInterleaving s M
  pub only_tells : AllByRecursion (λ step. is_telling step ≡ true) M
  pub delivers : (who from index : ℕ) → who < participants s → from < participants s →
      index < s.places →
      Contains M (Deliver from index who)
  pub learns : (who from index : ℕ) → who < participants s → from < participants s →
      index < s.places →
      Contains M (Learn who from index)

-- Deliveries and learnings for `who` of the first places of the originator `from`.
abbrev pub of_places : ℕ → ℕ → ℕ → List Step
of_places who from zero = []
of_places who from (suc index) =
    Deliver from index who ∷ (Learn who from index ∷ of_places who from index)

-- Deliveries and learnings for `who` of this number of places of each of the first originators.
abbrev pub of_originators : ℕ → ℕ → ℕ → List Step
of_originators who places zero = []
of_originators who places (suc from) = of_places who from places ++ of_originators who places from

-- Deliveries and learnings for the first participants, of this number of places of each of this
-- number of originators.
abbrev pub of_participants : ℕ → ℕ → ℕ → List Step
of_participants originators places zero = []
of_participants originators places (suc who) =
    of_originators who places originators ++ of_participants originators places who

-- A closing: deliveries and learnings for each participant of each place.
abbrev pub closing : HubSettings → List Step
closing s = of_participants (participants s) s.places (participants s)

-- `closing` is a closing.
abbrev pub ThereIsAClosing : Type 0
ThereIsAClosing = (s : HubSettings) → IsClosing s (closing s)

-- A closing decides nothing.
abbrev pub ClosingDecidesNothing : Type 0
ClosingDecidesNothing =
    (s : HubSettings) (O : Opening) (L M : List Step) → IsClosing s M → (p : ℕ) (id : List ℕ) →
    outcome s O (M ++ L) p id ≡ outcome s O L p id

-- True if the event is a booking or a forwarding.
abbrev pub is_told : Event → Bool
is_told (Forwarded from id cents deadline) = true
is_told (Booked from id outcome) = true
is_told (Funded funding) = false
is_told (Defunded funding) = false
is_told (Taken id to cents stamp) = false
is_told (Fetched count) = false
is_told Opened = false

-- The history K extends J by bookings and forwardings.
pub record OnlyTold (J K : List Event) : Type 0 where
  pub events : List Event
  pub appended : K ≡ J ++ events
  pub told : AllByRecursion (λ event. is_told event ≡ true) events

-- A closing adds only bookings and forwardings.
abbrev pub ClosingOnlyTells : Type 0
ClosingOnlyTells = (s : HubSettings) (O : Opening) (L M : List Step) → IsClosing s M → (p : ℕ) →
    OnlyTold (history s O L p) (history s O (M ++ L) p)

-- Each history is sound, and together they are closed.
pub record AreClosed (s : HubSettings) (J : ℕ → List Event) : Type 0 where
  pub sound : (p : ℕ) → IsSound s p (J p)
  pub closed : BooksAreClosed s J

-- After a closing the histories are sound and closed.
abbrev pub ClosingCloses : Type 0
ClosingCloses =
    (s : HubSettings) (O : Opening) → IsOpening s O → (L M : List Step) → IsInterleaving s L →
    IsClosing s M → AreClosed s (history s O (M ++ L))

-- No further delivery or learning adds anything.
abbrev pub NothingIsLeftToTell : HubSettings → Opening → List Step → Type 0
NothingIsLeftToTell s O L =
    (step : Step) → is_telling step ≡ true → step_fits s step ≡ true → (p : ℕ) →
    history s O (step ∷ L) p ≡ history s O L p

-- After a closing nothing is left to deliver or to learn.
abbrev pub ClosingLeavesNothingToTell : Type 0
ClosingLeavesNothingToTell =
    (s : HubSettings) (O : Opening) → IsOpening s O → (L M : List Step) → IsInterleaving s L →
    IsClosing s M → NothingIsLeftToTell s O (M ++ L)

-- If no delivery or learning would add anything, the books are closed, whatever steps led there.
abbrev pub NothingLeftIsClosed : Type 0
NothingLeftIsClosed =
    (s : HubSettings) (O : Opening) → IsOpening s O → (L : List Step) → IsInterleaving s L →
    NothingIsLeftToTell s O L → AreClosed s (history s O L)

-- Nothing is untold, and the positions sum to the net funding.
pub record IsSettledUp (s : HubSettings) (O : Opening) (L : List Step) : Type 0 where
  pub all_told : untold s O L ≡ 0
  pub sum : pos (sum_over_participants s (λ p. position (history s O L p)))
      ≡ signed_total s (λ p. net (history s O L p))

-- After a closing `IsSettledUp` holds.
abbrev pub ClosingSettlesUp : Type 0
ClosingSettlesUp =
    (s : HubSettings) (O : Opening) → IsOpening s O → (L M : List Step) → IsInterleaving s L →
    IsClosing s M → IsSettledUp s O (M ++ L)

-- A second closing adds nothing.
abbrev pub ClosingAgainAddsNothing : Type 0
ClosingAgainAddsNothing =
    (s : HubSettings) (O : Opening) → IsOpening s O → (L M N : List Step) → IsInterleaving s L →
    IsClosing s M → IsClosing s N → (p : ℕ) → history s O (N ++ (M ++ L)) p ≡ history s O (M ++ L) p
