-- Live transfers, and the effect of an opening from the books: money and keys stay as they were,
-- booked transfers are no longer live, and the fundings are free again. Promises of this hub.
use Rattle.std.specs.Prelude.{◌≡◌, ℕ, ◌≤◌, true, is_none, List, [], ◌∷◌, ◌++◌, None}
use Rattle.inst_settings.specs.Settings.{HubSettings}
use Rattle.inst_command.specs.declared.funding.Funding.{Funding}
use Rattle.inst_command.specs.declared.submission.Submission.{Submission}
use Rattle.inst_journal.specs.declared.event.Event.{Event}
use Rattle.inst_journal.specs.declared.event.Event.TheVariants.{Taken, Forwarded, Opened}
use Rattle.inst_journal.specs.Booked.{is_taken, is_forwarded, booked}
use Rattle.inst_journal.specs.Opened.{carried, is_live, takes_live, live_submissions, forwards_live}
use Rattle.inst_journal.specs.Opened.{live_forwarded}
use Rattle.inst_journal.specs.Keys.{is_fund_repeat, is_defund_repeat, is_submission_repeat}
use Rattle.inst_journal.specs.Keys.{has_reference, fundings}
use Rattle.inst_journal.specs.Money.{reserved, position, available}
use Rattle.inst_journal.specs.Sound.{IsSound}

-- A transfer without a booked outcome is live. The counts of live transfers count exactly the live
-- ones, and are at most the number of places.
pub record IsLivingWithin (s : HubSettings) (who : ℕ) (J : List Event) : Type 0 where
  pub unbooked : (from : ℕ) (id : List ℕ) → booked from id J ≡ None → is_live from id J ≡ true
  pub counts_taken : (id : List ℕ) (to cents stamp : ℕ) →
      takes_live who (carried J) (Taken id to cents stamp) ≡ is_live who id J
  pub counts_forwarded : (from : ℕ) (id : List ℕ) (cents deadline : ℕ) →
      forwards_live from (carried J) (Forwarded from id cents deadline) ≡ is_live from id J
  pub submissions : live_submissions who J ≤ s.places
  pub forwarded : (from : ℕ) → live_forwarded from J ≤ s.places

-- The law: `IsLivingWithin` for all sound histories.
abbrev pub TheLiveHavePlaces : Type 0
TheLiveHavePlaces =
    (s : HubSettings) (who : ℕ) (J : List Event) → IsSound s who J → IsLivingWithin s who J

-- K has the same money as J.
pub record SameMoney (J K : List Event) : Type 0 where
  pub position : position K ≡ position J
  pub reserved : reserved K ≡ reserved J
  pub available : available K ≡ available J

-- K has the same transfers, bookings and references as J.
pub record SameKeys (J K : List Event) : Type 0 where
  pub taken : (id : List ℕ) → is_taken id K ≡ is_taken id J
  pub forwarded : (from : ℕ) (id : List ℕ) → is_forwarded from id K ≡ is_forwarded from id J
  pub booked : (from : ℕ) (id : List ℕ) → booked from id K ≡ booked from id J
  pub reference : (reference : List ℕ) → has_reference reference K ≡ has_reference reference J
  pub submission : (x : Submission) → is_submission_repeat x K ≡ is_submission_repeat x J
  pub fund : (funding : Funding) →
      is_fund_repeat funding K ≡ is_fund_repeat funding J
  pub defund : (funding : Funding) →
      is_defund_repeat funding K ≡ is_defund_repeat funding J

-- The law: an opening changes neither money nor keys.
abbrev pub AnOpeningKeepsTheBooks : Type 0
AnOpeningKeepsTheBooks =
    (J : List Event) → SameMoney J (J ++ Opened ∷ []) × SameKeys J (J ++ Opened ∷ [])

-- In K exactly the transfers that J hasn't booked are live, and all fundings are free.
pub record BeginsAnew (J K : List Event) : Type 0 where
  pub live : (from : ℕ) (id : List ℕ) → is_live from id K ≡ is_none (booked from id J)
  pub fundings : fundings K ≡ 0

-- The law: `BeginsAnew` after an opening.
abbrev pub AnOpeningGivesBack : Type 0
AnOpeningGivesBack = (J : List Event) → BeginsAnew J (J ++ Opened ∷ [])
