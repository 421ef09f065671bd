-- The conditions under which a command adds its event. A submission is taken before its deadline
-- (EPC004-16, chapter 4: time cycle); the other conditions are a choice of this hub.
use Rattle.std.specs.Prelude.{◌≡◌, ◌≢◌, ◌↔◌, ℕ, ◌+◌, ◌<◌, ◌≤◌, false, List, [], ◌∷◌, ◌++◌, Option}
use Rattle.inst_settings.specs.Settings.{HubSettings}
use Rattle.inst_command.specs.declared.command.Command.{Command}
use Rattle.inst_command.specs.declared.command.Command.TheVariants.{Fund, Defund, Submit}
use Rattle.inst_command.specs.declared.funding.Funding.{Funding}
use Rattle.inst_command.specs.declared.outcome.Outcome.{Outcome}
use Rattle.inst_command.specs.declared.submission.Submission.{Submission}
use Rattle.inst_journal.specs.declared.event.Event.{Event}
use Rattle.inst_journal.specs.declared.event.Event.TheVariants.{Funded, Defunded}
use Rattle.inst_journal.specs.Booked.{is_taken}
use Rattle.inst_journal.specs.Keys.{has_reference, fundings}
use Rattle.inst_journal.specs.Money.{available}
use Rattle.inst_journal.specs.Opened.{live_submissions}
use Rattle.inst_journal.specs.Repeats.{taken_of}
use Rattle.inst_journal.specs.Reply.{history_after}

-- The history after the command has exactly this event more.
abbrev pub IsKept : HubSettings → ℕ → List Event → Command → ℕ → Option Outcome → Event → Type 0
IsKept s who J command at found event = history_after s who J command at found ≡ J ++ event ∷ []

-- A fund command adds its event: its reference is new, and a funding is free.
pub record MayFund (s : HubSettings) (J : List Event) (reference : List ℕ) : Type 0 where
  pub new : has_reference reference J ≡ false
  pub place : fundings J < s.fundings

-- A defund command adds its event: the same, and its amount is available.
pub record MayDefund (s : HubSettings) (J : List Event) (f : Funding) : Type 0 where
  pub funding : MayFund s J f.reference
  pub cover : f.cents ≤ available J

-- A submission is taken: it is to another participant, its identifier is new, its stamp is at most
-- `ahead` after the clock reading, the reading is before its deadline, a place is free and its
-- amount is available.
pub record MayTake (s : HubSettings) (who : ℕ) (J : List Event) (x : Submission) (at : ℕ) : Type 0
  where
    pub another : x.to ≢ who
    pub new : is_taken x.id J ≡ false
    pub stamp : x.stamp ≤ at + s.ahead
    pub in_time : at < x.stamp + s.limit
    pub place : live_submissions who J < s.places
    pub cover : x.cents ≤ available J

-- Each command adds its event exactly under its conditions.
pub record IsKeptWhereItMay (s : HubSettings) (who : ℕ) (J : List Event) (at : ℕ)
    (found : Option Outcome) : Type 0 where
  pub submission : (x : Submission) → IsKept s who J (Submit x) at found (taken_of x) ↔
      MayTake s who J x at
  pub fund : (funding : Funding) →
      IsKept s who J (Fund funding) at found (Funded funding) ↔ MayFund s J funding.reference
  pub defund : (funding : Funding) →
      IsKept s who J (Defund funding) at found (Defunded funding) ↔ MayDefund s J funding

-- The law: `IsKeptWhereItMay` for all histories and clock readings.
abbrev pub ACommandIsKeptWhereItMay : Type 0
ACommandIsKeptWhereItMay =
    (s : HubSettings) (who : ℕ) (J : List Event) (at : ℕ) (found : Option Outcome) →
    IsKeptWhereItMay s who J at found
