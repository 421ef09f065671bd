-- The reply to a party that confirms, rejects or investigates a transfer: the outcome that it has
-- booked, else the one that is found, which it books then (EPC004-16, chapter 4: positive and
-- negative confirmation, investigation). Without an outcome a confirmation is refused as too late,
-- and the others reply that the transfer is pending. The last is a choice of this hub.
use Rattle.std.specs.Prelude.{◌≡◌, ℕ, true, false, List, [], ◌∷◌, ◌++◌, Option, Some, None, Result}
use Rattle.std.specs.Prelude.{Ok, Err}
use Rattle.inst_base.specs.declared.fault.Fault.{Fault}
use Rattle.inst_base.specs.declared.fault.Fault.TheVariants.{UnknownTransfer, Expired}
use Rattle.inst_settings.specs.Settings.{HubSettings}
use Rattle.inst_command.specs.declared.command.Command.{Command}
use Rattle.inst_command.specs.declared.command.Command.TheVariants.{Confirm, Reject, Investigate}
use Rattle.inst_command.specs.declared.outcome.Outcome.{Outcome}
use Rattle.inst_command.specs.declared.outcome.State.TheVariants.{Pending, Decided}
use Rattle.inst_command.specs.declared.reply.Reply.{Reply}
use Rattle.inst_command.specs.declared.reply.Reply.TheVariants.{State}
use Rattle.inst_journal.specs.declared.event.Event.{Event}
use Rattle.inst_journal.specs.declared.event.Event.TheVariants.{Booked}
use Rattle.inst_journal.specs.Booked.{is_taken, is_forwarded, booked}
use Rattle.inst_journal.specs.Reply.{reply, history_after}

-- The command gets this answer, and the history after it is K.
pub record LeadsTo
    (s : HubSettings) (who : ℕ) (J : List Event) (command : Command) (at : ℕ)
    (found : Option Outcome)
    (answer : Result Reply Fault) (K : List Event)
    : Type 0 where
  pub answered : reply s who J command at found ≡ answer
  pub leaves : history_after s who J command at found ≡ K

-- A command on this transfer, of which the asker is a party: a booked outcome is replied again,
-- whatever is found; else a found outcome is replied and booked; without one the answer is
-- `pending`.
pub record TellsTheOutcome
    (s : HubSettings) (who : ℕ) (J : List Event) (command : Command) (at from : ℕ) (id : List ℕ)
    (pending : Result Reply Fault)
    : Type 0 where
  pub known : (outcome : Outcome) (found : Option Outcome) → booked from id J ≡ Some outcome →
      LeadsTo s who J command at found (Ok (State from id (Decided outcome))) J
  pub new : (outcome : Outcome) → booked from id J ≡ None →
      LeadsTo s who J command at (Some outcome) (Ok (State from id (Decided outcome))) (J
      ++ Booked from id outcome ∷ [])
  pub neither : booked from id J ≡ None → LeadsTo s who J command at None pending J

-- `TellsTheOutcome` for the beneficiary's confirmation and rejection and the originator's
-- investigation.
pub record IsToldTheOutcome (s : HubSettings) (who : ℕ) (J : List Event) (at : ℕ) : Type 0 where
  pub confirmed : (from : ℕ) (id : List ℕ) → is_forwarded from id J ≡ true →
      TellsTheOutcome s who J (Confirm from id) at from id (Err Expired)
  pub rejected : (from : ℕ) (id reason : List ℕ) → is_forwarded from id J ≡ true →
      TellsTheOutcome s who J (Reject from id reason) at from id (Ok (State from id Pending))
  pub investigated : (id : List ℕ) → is_taken id J ≡ true →
      TellsTheOutcome s who J (Investigate id) at who id (Ok (State who id Pending))

-- A participant gets `UnknownTransfer`, whatever is found, if it confirms or rejects a transfer
-- that wasn't forwarded to it, or investigates one that it hasn't submitted.
pub record IsToldNothing (s : HubSettings) (who : ℕ) (J : List Event) (at : ℕ)
    (found : Option Outcome) : Type 0 where
  pub confirmed : (from : ℕ) (id : List ℕ) → is_forwarded from id J ≡ false →
      LeadsTo s who J (Confirm from id) at found (Err UnknownTransfer) J
  pub rejected : (from : ℕ) (id reason : List ℕ) → is_forwarded from id J ≡ false →
      LeadsTo s who J (Reject from id reason) at found (Err UnknownTransfer) J
  pub investigated : (id : List ℕ) → is_taken id J ≡ false →
      LeadsTo s who J (Investigate id) at found (Err UnknownTransfer) J

-- The law: `IsToldTheOutcome` for all settings, histories and clock readings.
abbrev pub APartyIsToldTheOutcome : Type 0
APartyIsToldTheOutcome =
    (s : HubSettings) (who : ℕ) (J : List Event) (at : ℕ) → IsToldTheOutcome s who J at

-- The law: `IsToldNothing` for all of these, and any outcome that is found.
abbrev pub OthersAreToldNothing : Type 0
OthersAreToldNothing =
    (s : HubSettings) (who : ℕ) (J : List Event) (at : ℕ) (found : Option Outcome) →
    IsToldNothing s who J at found
