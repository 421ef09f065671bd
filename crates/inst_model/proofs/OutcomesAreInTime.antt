-- Each outcome is in time for the reading that decided it.
use Rattle.std.proofs.Common.{◌≡◌, ℕ, ◌+◌, ◌<◌, Bool, true, false, ◌&&◌, not, cond, eqb, ltb, List, Option, Some, None, ltb-true, ltb-false, refl, subst}
use Rattle.std.proofs.lemmas.Option.{same_Some}
use Rattle.inst_settings.specs.Settings.{HubSettings}
use Rattle.inst_command.specs.Deciding.{timed_out_or, confirmed, rejected, expired}
use Rattle.inst_base.specs.TimeLimit.{is_in_time_to_accept}
use Rattle.inst_command.specs.declared.command.Command.{Command}
use Rattle.inst_command.specs.declared.command.Command.TheVariants.{Fund, Defund, Submit, Confirm, Reject, Investigate, Fetch, Query}
use Rattle.inst_command.specs.declared.outcome.Outcome.{Outcome}
use Rattle.inst_command.specs.declared.outcome.Outcome.TheVariants.{Accepted, Rejected, TimedOut}
use Rattle.inst_command.specs.declared.step.Step.{Step}
use Rattle.inst_command.specs.declared.step.Step.TheVariants.{Ask, Deliver, Learn, Expire}
use Rattle.inst_journal.specs.declared.event.Event.{Event}
use Rattle.inst_journal.specs.Booked.{or_else, same_transfer}
use Rattle.inst_model.specs.Transfer.{Transfer, at_place, deadline, is_named}
use Rattle.inst_model.specs.Wants.{is_addressed, ask_wants, step_wants, wants}
use Rattle.inst_model.specs.Hub.{history}
use Rattle.inst_model.specs.InTime.{reading, IsInTime, EachOutcomeIsInTime}
use Rattle.inst_model.proofs.BeneficiaryBooksAccepted.{when_true, wants_taken}

late_or : (s : HubSettings) (d at : ℕ) (early : Option Outcome) (o : Outcome) → (at < d → early ≡ Some o → IsInTime s d at o) → timed_out_or d at early ≡ Some o → IsInTime s d at o
late_or s d at early o when e = cases (ltb at d) refl e
  where
    cases : (b : Bool) → ltb at d ≡ b → cond (not b) (Some TimedOut) early ≡ Some o → IsInTime s d at o
    cases true less is = when (ltb-true at d less) is
    cases false late is = subst (IsInTime s d at) (same_Some TimedOut o is) (ltb-false at d late)

confirmed_in_time : (s : HubSettings) (d at : ℕ) (o : Outcome) → confirmed s.margin d at ≡ Some o → IsInTime s d at o
confirmed_in_time s d at o e = late_or s d at (cond (is_in_time_to_accept s.margin d at) (Some Accepted) None) o (λ less is. cases (ltb (at + s.margin) d) refl is) e
  where
    cases : (b : Bool) → ltb (at + s.margin) d ≡ b → cond b (Some Accepted) None ≡ Some o → IsInTime s d at o
    cases true less is = subst (IsInTime s d at) (same_Some Accepted o is) (ltb-true (at + s.margin) d less)
    cases false late is = absurd cc

rejected_in_time : (s : HubSettings) (reason : List ℕ) (d at : ℕ) (o : Outcome) → rejected reason d at ≡ Some o → IsInTime s d at o
rejected_in_time s reason d at o e = late_or s d at (Some (Rejected reason)) o (λ less is. subst (IsInTime s d at) (same_Some (Rejected reason) o is) less) e

expired_in_time : (s : HubSettings) (d at : ℕ) (o : Outcome) → expired d at ≡ Some o → IsInTime s d at o
expired_in_time s d at o e = late_or s d at None o (λ less is. absurd cc) e

ask_in_time : (s : HubSettings) (J : ℕ → List Event) (who at p : ℕ) (id : List ℕ) (x : Transfer) (o : Outcome) (command : Command) → ask_wants s J who command at p id x ≡ Some o → IsInTime s (deadline s x) at o
ask_in_time s J who at p id x o (Confirm from other) e =
    confirmed_in_time s (deadline s x) at o (when_true (is_addressed J who from other p id x) (confirmed s.margin (deadline s x) at) o e).1
ask_in_time s J who at p id x o (Reject from other reason) e =
    rejected_in_time s reason (deadline s x) at o (when_true (is_addressed J who from other p id x) (rejected reason (deadline s x) at) o e).1
ask_in_time s J who at p id x o (Investigate other) e =
    expired_in_time s (deadline s x) at o (when_true (same_transfer p id who other) (expired (deadline s x) at) o e).1
ask_in_time s J who at p id x o (Fund funding) e = absurd cc
ask_in_time s J who at p id x o (Defund funding) e = absurd cc
ask_in_time s J who at p id x o (Submit submission) e = absurd cc
ask_in_time s J who at p id x o (Fetch max) e = absurd cc
ask_in_time s J who at p id x o (Query query) e = absurd cc

-- the reading at which a step wants something, in time
step_in_time : (s : HubSettings) (J : ℕ → List Event) (step : Step) (p : ℕ) (id : List ℕ) (x : Transfer) (o : Outcome) → step_wants s J step p id x ≡ Some o → (at : ℕ) × (reading step ≡ Some at) × IsInTime s (deadline s x) at o
step_in_time s J (Ask ask) p id x o e = (ask.at, refl, ask_in_time s J ask.who ask.at p id x o ask.command e)
step_in_time s J (Deliver from index to) p id x o e = absurd cc
step_in_time s J (Learn who from index) p id x o e = absurd cc
step_in_time s J (Expire who index at) p id x o e =
    (at, refl, expired_in_time s (deadline s x) at o (when_true (eqb who p && is_named id (at_place p (J p) index)) (expired (deadline s x) at) o e).1)

pub each_outcome_is_in_time : EachOutcomeIsInTime
each_outcome_is_in_time s O past step p id o none e =
    let wanted : wants s (history s O past) step p id ≡ Some o = subst (λ (before : Option Outcome). or_else before (wants s (history s O past) step p id) ≡ Some o) none e in
    let taken = wants_taken s (history s O past) step p id o wanted in
    let read = step_in_time s (history s O past) step p id taken.0 o taken.2 in
    record { terms = taken.0; taken = taken.1; at = read.0; is_read = read.1; in_time = read.2 }
