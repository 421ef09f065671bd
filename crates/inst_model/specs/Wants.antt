-- The outcome that a step would give a transfer that was taken before it. Before the deadline the
-- beneficiary's confirmation or rejection decides. From the deadline on a confirmation, a rejection
-- or the originator's investigation times it out (EPC004-16, chapter 4: time-out deadline, positive
-- and negative confirmation, investigation). A confirmation in the margin before the deadline gives
-- no outcome, and an expiry is a separate step. Both are choices of this hub.
use Rattle.std.specs.Prelude.{ℕ, Bool, ◌&&◌, ◌==◌, if◌then◌else◌, List, Option, Some, None}
use Rattle.inst_settings.specs.Settings.{HubSettings}
use Rattle.inst_command.specs.declared.command.Command.{Command}
use Rattle.inst_command.specs.declared.command.Command.TheVariants.{Fund, Defund, Submit, Confirm}
use Rattle.inst_command.specs.declared.command.Command.TheVariants.{Reject, Investigate, Fetch}
use Rattle.inst_command.specs.declared.command.Command.TheVariants.{Query}
use Rattle.inst_command.specs.declared.outcome.Outcome.{Outcome}
use Rattle.inst_command.specs.Deciding.{confirmed, rejected, expired}
use Rattle.inst_command.specs.declared.step.Step.{Step}
use Rattle.inst_command.specs.declared.step.Step.TheVariants.{Ask, Deliver, Learn, Expire}
use Rattle.inst_journal.specs.declared.event.Event.{Event}
use Rattle.inst_journal.specs.Booked.{is_forwarded, same_transfer}
use Rattle.inst_model.specs.Transfer.{Transfer, transfer, at_place, deadline, is_named}

-- True if `who` is the beneficiary of the transfer, it was forwarded to `who`, and the command
-- names it.
abbrev pub is_addressed : (ℕ → List Event) → ℕ → ℕ → List ℕ → ℕ → List ℕ → Transfer → Bool
is_addressed J who from other p id x =
    same_transfer p id from other && (who == x.to) && is_forwarded p id (J who)

-- The outcome that an ask would give the transfer x with this identifier of the originator p.
abbrev pub ask_wants : HubSettings → (ℕ → List Event) → ℕ → Command → ℕ → ℕ → List ℕ → Transfer →
    Option Outcome
ask_wants s J who (Confirm from other) at p id x =
    if is_addressed J who from other p id x then confirmed s.margin (deadline s x) at else None
ask_wants s J who (Reject from other reason) at p id x =
    if is_addressed J who from other p id x then rejected reason (deadline s x) at else None
ask_wants s J who (Investigate other) at p id x =
    if same_transfer p id who other then expired (deadline s x) at else None
ask_wants s J who (Fund funding) at p id x = None
ask_wants s J who (Defund funding) at p id x = None
ask_wants s J who (Submit submission) at p id x = None
ask_wants s J who (Fetch max) at p id x = None
ask_wants s J who (Query query) at p id x = None

-- The outcome that a step would give the transfer x.
abbrev pub step_wants : HubSettings → (ℕ → List Event) → Step → ℕ → List ℕ → Transfer →
    Option Outcome
step_wants s J (Ask ask) p id x = ask_wants s J ask.who ask.command ask.at p id x
step_wants s J (Deliver from index to) p id x = None
step_wants s J (Learn who from index) p id x = None
step_wants s J (Expire who index at) p id x =
    if (who == p) && is_named id (at_place p (J p) index) then expired (deadline s x) at else None

-- `step_wants`, or none if the originator hasn't taken the transfer.
abbrev pub taken_wants : HubSettings → (ℕ → List Event) → Step → ℕ → List ℕ → Option Transfer →
    Option Outcome
taken_wants s J step p id None = None
taken_wants s J step p id (Some x) = step_wants s J step p id x

-- The outcome that a step would give the transfer with this identifier of the originator p, after
-- the histories J.
abbrev pub wants : HubSettings → (ℕ → List Event) → Step → ℕ → List ℕ → Option Outcome
wants s J step p id = taken_wants s J step p id (transfer id (J p))
