-- Repeats and their replies; the replies `Done` and `Taken` are given exactly if the command's
-- event is in the history; a key is kept once. Promises of this hub.
use Rattle.std.specs.Prelude.{◌≡◌, ◌≢◌, ◌↔◌, ℕ, ◌≤◌, true, List, Option, Ok, Contains, count_by}
use Rattle.inst_base.specs.TimeLimit.{deadline_of}
use Rattle.inst_settings.specs.Settings.{HubSettings}
use Rattle.inst_command.specs.declared.command.Command.{Command}
use Rattle.inst_command.specs.declared.command.Command.TheVariants.{Fund, Defund, Submit}
use Rattle.inst_command.specs.declared.funding.Funding.{Funding}
use Rattle.inst_command.specs.declared.outcome.Outcome.{Outcome}
use Rattle.inst_command.specs.declared.reply.Reply.{Reply}
use Rattle.inst_command.specs.declared.reply.Reply.TheVariants.{Done, Taken as TakenReply}
use Rattle.inst_command.specs.declared.submission.Submission.{Submission}
use Rattle.inst_journal.specs.declared.event.Event.{Event}
use Rattle.inst_journal.specs.declared.event.Event.TheVariants.{Funded, Defunded, Taken}
use Rattle.inst_journal.specs.Booked.{takes}
use Rattle.inst_journal.specs.Keys.{is_fund_repeat, is_defund_repeat, is_submission_repeat, refers}
use Rattle.inst_journal.specs.Reply.{reply, history_after}
use Rattle.inst_journal.specs.Sound.{IsSound}

-- The event of a submission.
abbrev pub taken_of : Submission → Event
taken_of x = Taken x.id x.to x.cents x.stamp

-- A repeat has all contents of an event of the history.
pub record IsTheVerySame (J : List Event) : Type 0 where
  pub submission : (x : Submission) → (is_submission_repeat x J ≡ true) ↔ Contains J (taken_of x)
  pub fund : (funding : Funding) →
      (is_fund_repeat funding J ≡ true) ↔ Contains J (Funded funding)
  pub defund : (funding : Funding) →
      (is_defund_repeat funding J ≡ true) ↔ Contains J (Defunded funding)

-- The law: `IsTheVerySame` for all lists of events.
abbrev pub ARepeatIsTheVerySame : Type 0
ARepeatIsTheVerySame = (J : List Event) → IsTheVerySame J

-- The command gets this reply and adds no event.
pub record IsAnsweredOnly
    (s : HubSettings) (who : ℕ) (J : List Event) (command : Command) (at : ℕ)
    (found : Option Outcome) (told : Reply)
    : Type 0 where
  pub answer : reply s who J command at found ≡ Ok told
  pub kept_nothing : history_after s who J command at found ≡ J

-- The reply to a taken submission.
abbrev pub taken_reply : HubSettings → Submission → Reply
taken_reply s x = TakenReply x.id (deadline_of s.limit x.stamp)

-- A repeat gets its reply again at any clock reading, even when due, and whatever is full or short.
pub record IsAnsweredAgain (s : HubSettings) (who : ℕ) (J : List Event) (at : ℕ)
    (found : Option Outcome) : Type 0 where
  pub submission : (x : Submission) → is_submission_repeat x J ≡ true → x.to ≢ who →
      IsAnsweredOnly s who J (Submit x) at found (taken_reply s x)
  pub fund : (funding : Funding) → is_fund_repeat funding J ≡ true →
      IsAnsweredOnly s who J (Fund funding) at found (Done funding.reference)
  pub defund : (funding : Funding) → is_defund_repeat funding J ≡ true →
      IsAnsweredOnly s who J (Defund funding) at found (Done funding.reference)

-- The law: `IsAnsweredAgain` for all histories and clock readings.
abbrev pub ARepeatIsAnsweredAgain : Type 0
ARepeatIsAnsweredAgain =
    (s : HubSettings) (who : ℕ) (J : List Event) (at : ℕ) (found : Option Outcome) →
    IsAnsweredAgain s who J at found

-- The command gets this reply exactly if its history has the event afterwards.
abbrev pub IsToldWhereKept : HubSettings → ℕ → List Event → Command → ℕ → Option Outcome → Reply →
    Event → Type 0
IsToldWhereKept s who J command at found told event =
    (reply s who J command at found ≡ Ok told) ↔
    Contains (history_after s who J command at found) event

-- `IsToldWhereKept` for each command with an event of this kind.
pub record AreToldWhereKept
    (s : HubSettings) (who : ℕ) (J : List Event) (at : ℕ) (found : Option Outcome) : Type 0 where
  pub submission : (x : Submission) →
      IsToldWhereKept s who J (Submit x) at found (taken_reply s x) (taken_of x)
  pub fund : (funding : Funding) →
      IsToldWhereKept s who J (Fund funding) at found (Done funding.reference) (Funded funding)
  pub defund : (funding : Funding) →
      IsToldWhereKept s who J (Defund funding) at found (Done funding.reference) (Defunded funding)

-- The law: `AreToldWhereKept` for all sound histories.
abbrev pub WhatIsToldIsKept : Type 0
WhatIsToldIsKept =
    (s : HubSettings) (who : ℕ) (J : List Event) → IsSound s who J →
    (at : ℕ) (found : Option Outcome) →
    AreToldWhereKept s who J at found

-- At most one event has a funding reference, and at most one takes an identifier.
pub record KeepsAKeyOnce (J : List Event) : Type 0 where
  pub references : (reference : List ℕ) → count_by (refers reference) J ≤ 1
  pub identifiers : (id : List ℕ) → count_by (takes id) J ≤ 1

-- The law: `KeepsAKeyOnce` for all sound histories.
abbrev pub AKeyIsKeptOnce : Type 0
AKeyIsKeptOnce = (s : HubSettings) (who : ℕ) (J : List Event) → IsSound s who J → KeepsAKeyOnce J
