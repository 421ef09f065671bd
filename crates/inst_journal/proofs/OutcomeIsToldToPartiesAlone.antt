-- What a party is told of a transfer that it asks after.
use Rattle.std.proofs.Common.{◌≡◌, ℕ, List, [], ◌++◌, Option, Some, None, Result, Err, refl, ap, ◌∙◌, append-nil}
use Rattle.inst_base.specs.declared.fault.Fault.{Fault}
use Rattle.inst_base.specs.declared.fault.Fault.TheVariants.{UnknownTransfer, Expired}
use Rattle.inst_settings.specs.Settings.{HubSettings}
use Rattle.inst_command.specs.declared.command.Command.{Command}
use Rattle.inst_command.specs.declared.command.Command.TheVariants.{Confirm, Reject, Investigate}
use Rattle.inst_command.specs.declared.outcome.Outcome.{Outcome}
use Rattle.inst_journal.specs.declared.event.Event.{Event}
use Rattle.inst_journal.specs.declared.handle.Handled.{Handled}
use Rattle.inst_journal.specs.Answering.{LeadsTo, TellsTheOutcome, IsToldTheOutcome, IsToldNothing}
use Rattle.inst_journal.specs.Booked.{booked}
use Rattle.inst_journal.specs.Reply.{handle, state_reply, still_pending, reply_result, kept_events}

-- what a command is handled as says where it leads to
leads : (s : HubSettings) (who : ℕ) (J : List Event) (command : Command) (at : ℕ) (found : Option Outcome) (h : Result Handled Fault)
    → handle s who J command at found ≡ h → LeadsTo s who J command at found (reply_result h) (J ++ kept_events h)
leads s who J command at found h same = record { answered = ap reply_result same; leaves = ap (λ r. J ++ kept_events r) same }

-- what keeps nothing leaves the history
leads_nowhere : (s : HubSettings) (who : ℕ) (J : List Event) (command : Command) (at : ℕ) (found : Option Outcome) (h : Result Handled Fault)
    → handle s who J command at found ≡ h → kept_events h ≡ [] → LeadsTo s who J command at found (reply_result h) J
leads_nowhere s who J command at found h same none = record {
  answered = ap reply_result same;
  leaves = ap (λ r. J ++ kept_events r) same ∙ ap (λ events. J ++ events) none ∙ append-nil J;
}

-- a command that is handled as the transfer stands
tells : (s : HubSettings) (who : ℕ) (J : List Event) (command : Command) (at from : ℕ) (id : List ℕ) (pending : Result Handled Fault)
    → ((found : Option Outcome) → handle s who J command at found ≡ state_reply from id pending (booked from id J) found)
    → kept_events pending ≡ [] → TellsTheOutcome s who J command at from id (reply_result pending)
tells s who J command at from id pending stands none = record {
  known = λ outcome found is.
      leads_nowhere s who J command at found _ (stands found ∙ ap (λ known. state_reply from id pending known found) is) refl;
  new = λ outcome unknown.
      leads s who J command at (Some outcome) _ (stands (Some outcome) ∙ ap (λ known. state_reply from id pending known (Some outcome)) unknown);
  neither = λ unknown.
      leads_nowhere s who J command at None _ (stands None ∙ ap (λ known. state_reply from id pending known None) unknown) none;
}

-- a party is told the outcome
pub told_the_outcome : (s : HubSettings) (who : ℕ) (J : List Event) (at : ℕ) → IsToldTheOutcome s who J at
told_the_outcome s who J at = record {
  confirmed = λ from id forwarded. tells s who J (Confirm from id) at from id (Err Expired) (λ found. rw forwarded refl) refl;
  rejected = λ from id reason forwarded.
      tells s who J (Reject from id reason) at from id (still_pending from id) (λ found. rw forwarded refl) refl;
  investigated = λ id taken. tells s who J (Investigate id) at who id (still_pending who id) (λ found. rw taken refl) refl;
}

-- others are told nothing
pub told_nothing : (s : HubSettings) (who : ℕ) (J : List Event) (at : ℕ) (found : Option Outcome) → IsToldNothing s who J at found
told_nothing s who J at found = record {
  confirmed = λ from id none. leads_nowhere s who J (Confirm from id) at found (Err UnknownTransfer) (rw none refl) refl;
  rejected = λ from id reason none. leads_nowhere s who J (Reject from id reason) at found (Err UnknownTransfer) (rw none refl) refl;
  investigated = λ id none. leads_nowhere s who J (Investigate id) at found (Err UnknownTransfer) (rw none refl) refl;
}
