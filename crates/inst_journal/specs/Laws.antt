-- The laws of a participant's books: nothing is overdrawn, each taken amount is in one place, each
-- transfer is booked once, and the events of commands keep the books sound. Promises of this hub.
use Rattle.std.specs.Prelude.{◌≡◌, ◌≢◌, ℕ, ◌+◌, ◌≤◌, true, List, Option, Some, None, sum_by}
use Rattle.std.specs.Prelude.{count_by, is_some}
use Rattle.inst_settings.specs.Settings.{HubSettings}
use Rattle.inst_command.specs.Ask.{command_fits}
use Rattle.inst_command.specs.declared.command.Command.{Command}
use Rattle.inst_command.specs.declared.outcome.Outcome.{Outcome}
use Rattle.inst_command.specs.declared.outcome.Outcome.TheVariants.{Accepted}
use Rattle.inst_journal.specs.declared.event.Event.{Event}
use Rattle.inst_journal.specs.declared.event.Event.TheVariants.{Taken}
use Rattle.inst_journal.specs.Booked.{books, booked, own_booked}
use Rattle.inst_journal.specs.Covered.{IsNeverOverdrawn}
use Rattle.inst_journal.specs.OneOfThree.{if_released, IsOneOf}
use Rattle.inst_journal.specs.Sums.{debits, debit, reservation}
use Rattle.inst_journal.specs.Money.{reserved}
use Rattle.inst_journal.specs.Reply.{history_after}
use Rattle.inst_journal.specs.Sound.{IsSound}

-- A sound history is never overdrawn.
abbrev pub NothingIsOverdrawn : Type 0
NothingIsOverdrawn =
    (s : HubSettings) (who : ℕ) (J : List Event) → IsSound s who J → IsNeverOverdrawn J

-- The amount of a taken transfer.
abbrev pub taking : Event → ℕ
taking (Taken id to cents stamp) = cents
taking _ = 0

-- The amount that a taken transfer releases: it is booked and not accepted.
abbrev pub release : List Event → Event → ℕ
release J (Taken id to cents stamp) = if_released (own_booked id J) cents
release J _ = 0

-- The sum of all that was released.
abbrev pub released : List Event → ℕ
released J = sum_by (release J) J

-- Each taken amount is reserved, debited or released, and only one of them; so is their sum.
pub record IsInOnePlace (J : List Event) : Type 0 where
  pub each : (id : List ℕ) (to cents stamp : ℕ) →
      IsOneOf cents (reservation J (Taken id to cents stamp)) (debit J (Taken id to cents stamp))
      (release J (Taken id to cents stamp))
  pub all : reserved J + debits J + released J ≡ sum_by taking J

-- The law: `IsInOnePlace` for all lists of events.
abbrev pub EachTakenAmountIsInOnePlace : Type 0
EachTakenAmountIsInOnePlace = (J : List Event) → IsInOnePlace J

-- A participant's booking of its own transfer is the booking under its own number.
abbrev pub AnOwnBookingHasTheOwnNumber : Type 0
AnOwnBookingHasTheOwnNumber =
    (s : HubSettings) (who : ℕ) (J : List Event) → IsSound s who J → (id : List ℕ) →
    own_booked id J ≡ booked who id J

-- The parts of an event's amount that are reserved and debited.
pub record IsPlaced (J : List Event) (event : Event) (reserved debited : ℕ) : Type 0 where
  pub reservation_is : reservation J event ≡ reserved
  pub debit_is : debit J event ≡ debited

-- A taken amount is reserved while no outcome is booked, debited once it is booked accepted, and
-- neither after another outcome.
pub record IsWhereItIsBooked (who : ℕ) (J : List Event) (id : List ℕ) (to cents stamp : ℕ) : Type 0
  where
    pub unbooked : booked who id J ≡ None → IsPlaced J (Taken id to cents stamp) cents 0
    pub accepted : booked who id J ≡ Some Accepted → IsPlaced J (Taken id to cents stamp) 0 cents
    pub others : (outcome : Outcome) → booked who id J ≡ Some outcome → outcome ≢ Accepted →
        IsPlaced J (Taken id to cents stamp) 0 0

-- The law: `IsWhereItIsBooked` for all sound histories and transfers.
abbrev pub ATakenAmountIsWhereItIsBooked : Type 0
ATakenAmountIsWhereItIsBooked = (s : HubSettings) (who : ℕ) (J : List Event) → IsSound s who J →
    (id : List ℕ) (to cents stamp : ℕ) → IsWhereItIsBooked who J id to cents stamp

-- A transfer is booked at most once.
abbrev pub ATransferIsBookedOnce : Type 0
ATransferIsBookedOnce =
    (s : HubSettings) (who : ℕ) (J : List Event) → IsSound s who J → (from : ℕ) (id : List ℕ) →
    count_by (λ event. is_some (books from id event)) J ≤ 1

-- The event that a command adds leaves a sound history sound.
abbrev pub WhatIsKeptFits : Type 0
WhatIsKeptFits =
    (s : HubSettings) (who : ℕ) (J : List Event) (command : Command) (at : ℕ)
    (found : Option Outcome) →
    IsSound s who J → command_fits s command ≡ true →
    IsSound s who (history_after s who J command at found)
