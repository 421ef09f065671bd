-- The lists of events that are a participant's history: each event fits the events before it. A
-- slot preserves this. A choice of this hub.
use Rattle.std.specs.Prelude.{◌≡◌, ◌≢◌, ℕ, ◌<◌, ◌≤◌, true, false, List, [], ◌∷◌, ◌++◌, length, None}
use Rattle.std.specs.Prelude.{◌⊎◌}
use Rattle.inst_base.specs.Moment.{is_moment}
use Rattle.inst_base.specs.TimeLimit.{deadline_of}
use Rattle.inst_settings.specs.Settings.{HubSettings, is_participant, is_within_ceiling}
use Rattle.inst_command.specs.Ask.{is_count}
use Rattle.inst_command.specs.declared.funding.Funding.{Funding}
use Rattle.inst_journal.specs.declared.event.Event.{Event}
use Rattle.inst_journal.specs.declared.event.Event.TheVariants.{Funded, Defunded, Taken, Forwarded}
use Rattle.inst_journal.specs.declared.event.Event.TheVariants.{Booked, Fetched, Opened}
use Rattle.inst_journal.specs.Booked.{is_taken, is_forwarded, booked}
use Rattle.inst_journal.specs.Money.{available}
use Rattle.inst_journal.specs.Opened.{HasOpeningsLeft, live_submissions, live_forwarded}
use Rattle.inst_journal.specs.Keys.{has_reference, fundings}
use Rattle.inst_journal.specs.Reply.{unread}

-- A funding may follow: its reference is new, a funding is free, and its amount is allowed.
pub record FundedFits (s : HubSettings) (J : List Event) (funding : Funding) : Type 0 where
  pub new : has_reference funding.reference J ≡ false
  pub place : fundings J < s.fundings
  pub amount : is_within_ceiling s funding.cents ≡ true

-- A defunding may follow: the same, and its amount is available.
pub record DefundedFits (s : HubSettings) (J : List Event) (f : Funding) : Type 0 where
  pub funding : FundedFits s J f
  pub cover : f.cents ≤ available J

-- A taken transfer may follow: it is to another participant, its identifier is new, a place is
-- free, its amount is allowed and available, and its deadline is a moment.
pub record TakenFits (s : HubSettings) (who : ℕ) (J : List Event) (id : List ℕ) (to cents stamp : ℕ)
    : Type 0 where
  pub beneficiary : is_participant s to ≡ true
  pub another : to ≢ who
  pub deadline : is_moment (deadline_of s.limit stamp) ≡ true
  pub new : is_taken id J ≡ false
  pub place : live_submissions who J < s.places
  pub amount : is_within_ceiling s cents ≡ true
  pub cover : cents ≤ available J

-- A forwarded transfer may follow: it is new, from another participant, and that one has a place
-- for it.
pub record ForwardedFits (s : HubSettings) (who : ℕ) (J : List Event) (from : ℕ) (id : List ℕ) :
    Type 0 where
  pub originator : is_participant s from ≡ true
  pub another : from ≢ who
  pub new : is_forwarded from id J ≡ false
  pub place : live_forwarded from J < s.places

-- A booking may follow: the participant is a party, and nothing is booked.
pub record BookedFits (who : ℕ) (J : List Event) (from : ℕ) (id : List ℕ) : Type 0 where
  pub party : ((from ≡ who) × (is_taken id J ≡ true)) ⊎ (is_forwarded from id J ≡ true)
  pub new : booked from id J ≡ None

-- A fetch may follow: its count is 1 to 100, and that many transfers are unread.
pub record FetchedFits (J : List Event) (count : ℕ) : Type 0 where
  pub number : is_count count ≡ true
  pub there : count ≤ length (unread J)

-- An opening may follow: there is one left.
pub record OpenedFits (J : List Event) : Type 0 where
  pub few : HasOpeningsLeft J

-- The event may follow these events.
abbrev pub Fits : HubSettings → ℕ → List Event → Event → Type 0
Fits s who J (Funded funding) = FundedFits s J funding
Fits s who J (Defunded funding) = DefundedFits s J funding
Fits s who J (Taken id to cents stamp) = TakenFits s who J id to cents stamp
Fits s who J (Forwarded from id cents deadline) = ForwardedFits s who J from id
Fits s who J (Booked from id outcome) = BookedFits who J from id
Fits s who J (Fetched count) = FetchedFits J count
Fits s who J Opened = OpenedFits J

-- Each of the events fits `front` and the events before it.
abbrev pub FitAfter : HubSettings → ℕ → List Event → List Event → Type 0
FitAfter s who front [] = Unit {0}
FitAfter s who front (event ∷ events) =
    Fits s who front event × FitAfter s who (front ++ event ∷ []) events

-- The list is a history of the participant `who`.
abbrev pub IsSound : HubSettings → ℕ → List Event → Type 0
IsSound s who J = FitAfter s who [] J
