-- An accepted transfer is booked by its beneficiary in the step that accepts it.
use Rattle.std.proofs.Common.{◌≡◌, ℕ, Bool, true, false, ◌&&◌, cond, eqb, List, [], ◌∷◌, ◌++◌, Option, Some, None, refl, sym, ap, subst, ◌∙◌, inl, inr, ◌⊎◌}
use Rattle.std.proofs.lemmas.Bool.{and_parts, eqb-true, eq-eqb, cond-true}
use Rattle.std.proofs.lemmas.Option.{same_Some}
use Rattle.inst_model.specs.Opening.{Opening, IsOpening}
use Rattle.inst_settings.specs.Settings.{HubSettings}
use Rattle.inst_command.specs.declared.ask.Ask.{Ask as AskValue}
use Rattle.inst_command.specs.declared.command.Command.{Command}
use Rattle.inst_command.specs.declared.command.Command.TheVariants.{Fund, Defund, Submit, Confirm, Reject, Investigate, Fetch, Query}
use Rattle.inst_command.specs.declared.outcome.Outcome.{Outcome}
use Rattle.inst_command.specs.declared.outcome.Outcome.TheVariants.{Accepted, Rejected, TimedOut}
use Rattle.inst_command.specs.declared.step.Step.{Step}
use Rattle.inst_command.specs.declared.step.Step.TheVariants.{Ask, Deliver, Learn, Expire}
use Rattle.inst_journal.specs.declared.event.Event.{Event}
use Rattle.inst_journal.specs.declared.event.Event.TheVariants.{Booked}
use Rattle.inst_journal.specs.Booked.{is_forwarded, booked, same_transfer}
use Rattle.inst_journal.specs.Reply.{handle, kept_events}
use Rattle.inst_model.specs.Transfer.{Transfer, at_place, transfer, deadline, is_named}
use Rattle.inst_command.specs.Deciding.{timed_out_or, confirmed}
use Rattle.inst_base.specs.TimeLimit.{is_due}
use Rattle.inst_model.specs.Wants.{is_addressed, ask_wants, step_wants, taken_wants, wants}
use Rattle.inst_model.specs.Found.{found}
use Rattle.inst_model.specs.View.Seen.{Asked}
use Rattle.inst_model.specs.Kept.{with_entries}
use Rattle.inst_model.specs.Hub.{decided, outcome, history}
use Rattle.inst_model.proofs.TextsTestsAndFirstThings.{or_else_cases, same_transfer-true}
use Rattle.inst_model.proofs.Histories.{next, history_step, persists_step}
use Rattle.inst_model.proofs.HistoriesBeginSoundAndClosed.{beginning_accepted}
use Rattle.inst_model.proofs.Outcomes.{booked_outcome}
use Rattle.inst_model.proofs.HistoryKeepsWhatItHas.{booked_kept, forwarded_kept, booked_new, is_none_of}
use Rattle.inst_model.proofs.Transfers.{transfer_kept}

-- what a participant's own ask leaves in its history
pub asked_next : (s : HubSettings) (J : ℕ → List Event) (before : ℕ → List ℕ → Option Outcome) (ask : AskValue) →
    next s J before (Ask ask) ask.who ≡ J ask.who ++ kept_events (handle s ask.who (J ask.who) ask.command ask.at (found (decided s J before (Ask ask)) ask.who (J ask.who) ask.command))
asked_next s J before ask =
    ap (λ b. with_entries s ask.who (J ask.who) (cond b (Asked ask.command ask.at (found (decided s J before (Ask ask)) ask.who (J ask.who) ask.command) ∷ []) []))
    (eq-eqb ask.who ask.who refl)

-- what a step wants is wanted of a taken transfer
pub wants_taken : (s : HubSettings) (J : ℕ → List Event) (step : Step) (p : ℕ) (id : List ℕ) (o : Outcome) → wants s J step p id ≡ Some o → (x : Transfer) × (transfer id (J p) ≡ Some x) × (step_wants s J step p id x ≡ Some o)
wants_taken s J step p id o e = go (transfer id (J p)) refl e
  where
    go : (t : Option Transfer) → transfer id (J p) ≡ t → taken_wants s J step p id t ≡ Some o → (x : Transfer) × (transfer id (J p) ≡ Some x) × (step_wants s J step p id x ≡ Some o)
    go None is e = absurd cc
    go (Some x) is e = (x, is, e)

-- a step that accepts the transfer x is its beneficiary's confirmation
pub record Accepts (J : ℕ → List Event) (step : Step) (p : ℕ) (id : List ℕ) (x : Transfer) : Type 0 where
  pub ask : AskValue
  pub is_ask : step ≡ Ask ask
  pub command : ask.command ≡ Confirm p id
  pub beneficiary : ask.who ≡ x.to
  pub forwarded : is_forwarded p id (J ask.who) ≡ true

timed_out_cases : (deadline at : ℕ) (early : Option Outcome) (o : Outcome) → timed_out_or deadline at early ≡ Some o → (early ≡ Some o) ⊎ (TimedOut ≡ o)
timed_out_cases deadline at early o e = cases (is_due deadline at) e
  where
    cases : (b : Bool) → cond b (Some TimedOut) early ≡ Some o → (early ≡ Some o) ⊎ (TimedOut ≡ o)
    cases true e = inr (same_Some TimedOut o e)
    cases false e = inl e

pub when_true : (b : Bool) (o : Option Outcome) (x : Outcome) → cond b o None ≡ Some x → (b ≡ true) × (o ≡ Some x)
when_true true o x e = (refl, e)
when_true false o x e = absurd cc

never_accepted : (deadline at : ℕ) (b : Bool) (early : Option Outcome) {X : Type 0} → (early ≡ Some Accepted → X) → cond b (timed_out_or deadline at early) None ≡ Some Accepted → X
never_accepted deadline at b early not_early e =
    elim (timed_out_cases deadline at early Accepted (when_true b (timed_out_or deadline at early) Accepted e).1) [
      | inl early_is ↦ not_early early_is
      | inr timed_out ↦ absurd cc
    ]

by_command : (s : HubSettings) (J : ℕ → List Event) (who at p : ℕ) (id : List ℕ) (x : Transfer) (command : Command) → ask_wants s J who command at p id x ≡ Some Accepted → Accepts J (Ask (record { who = who; command = command; at = at })) p id x
by_command s J who at p id x (Confirm from other) e =
    let parts : (is_addressed J who from other p id x ≡ true) × (confirmed s.margin (deadline s x) at ≡ Some Accepted) = when_true (is_addressed J who from other p id x) (confirmed s.margin (deadline s x) at) Accepted e in
    let outer : ((same_transfer p id from other && eqb who x.to) ≡ true) × (is_forwarded p id (J who) ≡ true) = and_parts (same_transfer p id from other && eqb who x.to) (is_forwarded p id (J who)) parts.0 in
    let inner : (same_transfer p id from other ≡ true) × (eqb who x.to ≡ true) = and_parts (same_transfer p id from other) (eqb who x.to) outer.0 in
    let same : (from ≡ p) × (other ≡ id) = same_transfer-true p id from other inner.0 in
    record {
      ask = record { who = who; command = Confirm from other; at = at };
      is_ask = refl;
      command = ap (λ q. Confirm q other) same.0 ∙ ap (λ (i : List ℕ). Confirm p i) same.1;
      beneficiary = eqb-true who x.to inner.1;
      forwarded = outer.1;
    }
by_command s J who at p id x (Reject from other reason) e = never_accepted (deadline s x) at (is_addressed J who from other p id x) (Some (Rejected reason)) (λ f. absurd cc) e
by_command s J who at p id x (Investigate other) e = never_accepted (deadline s x) at (same_transfer p id who other) None (λ f. absurd cc) e
by_command s J who at p id x (Fund funding) e = absurd cc
by_command s J who at p id x (Defund funding) e = absurd cc
by_command s J who at p id x (Submit submission) e = absurd cc
by_command s J who at p id x (Fetch max) e = absurd cc
by_command s J who at p id x (Query query) e = absurd cc

pub accepts : (s : HubSettings) (J : ℕ → List Event) (step : Step) (p : ℕ) (id : List ℕ) (x : Transfer) → step_wants s J step p id x ≡ Some Accepted → Accepts J step p id x
accepts s J (Ask ask) p id x e = by_command s J ask.who ask.at p id x ask.command e
accepts s J (Deliver from index to) p id x e = absurd cc
accepts s J (Learn who from index) p id x e = absurd cc
accepts s J (Expire who index at) p id x e = never_accepted (deadline s x) at (eqb who p && is_named id (at_place p (J p) index)) None (λ f. absurd cc) e

-- a confirmation that finds an outcome books it
confirmation_books : (s : HubSettings) (who : ℕ) (J : List Event) (from : ℕ) (id : List ℕ) (at : ℕ) (o : Option Outcome) (outcome : Outcome) → is_forwarded from id J ≡ true → booked from id J ≡ None → o ≡ Some outcome → kept_events (handle s who J (Confirm from id) at o) ≡ Booked from id outcome ∷ []
confirmation_books s who J from id at o outcome there none some = rw (there, none, some) refl

-- what the beneficiary of an accepted transfer has booked
pub accepted_booked : (s : HubSettings) (O : Opening) → IsOpening s O → (L : List Step) (p : ℕ) (id : List ℕ) → outcome s O L p id ≡ Some Accepted → (x : Transfer) × (transfer id (history s O L p) ≡ Some x) × (booked p id (history s O L x.to) ≡ Some Accepted) × (is_forwarded p id (history s O L x.to) ≡ true)
accepted_booked s O opened [] p id e = beginning_accepted s O opened p id e
accepted_booked s O opened (step ∷ past) p id e =
    elim (or_else_cases (outcome s O past p id) (wants s (history s O past) step p id) Accepted e) [
      | inl old ↦
          let was = accepted_booked s O opened past p id old in (
            was.0,
            persists_step s O step past p (λ K. transfer id K ≡ Some was.0) (λ K event. transfer_kept id K event was.0) was.1,
            persists_step s O step past was.0.to (λ K. booked p id K ≡ Some Accepted) (booked_kept p id Accepted) was.2,
            persists_step s O step past was.0.to (λ K. is_forwarded p id K ≡ true) (forwarded_kept p id) was.3,
          )
      | inr new ↦
          let wanted = wants_taken s (history s O past) step p id Accepted new.1 in
          let x : Transfer = wanted.0 in
          let a : Accepts (history s O past) step p id x = accepts s (history s O past) step p id x wanted.2 in
          let unbooked : booked p id (history s O past a.ask.who) ≡ None =
          is_none_of (booked p id (history s O past a.ask.who)) (λ o some. let was : outcome s O past p id ≡ Some o = booked_outcome s O opened past a.ask.who p id o some in cc) in
          let J : ℕ → List Event = history s O past in
          let after : ℕ → List ℕ → Option Outcome = decided s J (outcome s O past) (Ask a.ask) in
          let found_is : found after a.ask.who (J a.ask.who) a.ask.command ≡ Some Accepted =
          ap (found after a.ask.who (J a.ask.who)) a.command ∙ cond-true (is_forwarded p id (J a.ask.who)) (after p id) None a.forwarded
          ∙ (ap (λ (t : Step). decided s J (outcome s O past) t p id) (sym a.is_ask) ∙ e) in
          let kept_is : kept_events (handle s a.ask.who (J a.ask.who) a.ask.command a.ask.at (found after a.ask.who (J a.ask.who) a.ask.command)) ≡ Booked p id Accepted ∷ [] =
          ap (λ (c : Command). kept_events (handle s a.ask.who (J a.ask.who) c a.ask.at (found after a.ask.who (J a.ask.who) a.ask.command))) a.command
          ∙ confirmation_books s a.ask.who (J a.ask.who) p id a.ask.at _ Accepted a.forwarded unbooked found_is in
          let grown : history s O (step ∷ past) a.ask.who ≡ J a.ask.who ++ Booked p id Accepted ∷ [] =
          history_step s O step past a.ask.who ∙ ap (λ (t : Step). next s J (outcome s O past) t a.ask.who) a.is_ask
          ∙ asked_next s J (outcome s O past) a.ask ∙ ap (λ events. J a.ask.who ++ events) kept_is in (
            x,
            persists_step s O step past p (λ K. transfer id K ≡ Some x) (λ K event. transfer_kept id K event x) wanted.1,
            ap (λ q. booked p id (history s O (step ∷ past) q)) (sym a.beneficiary) ∙ ap (booked p id) grown ∙ booked_new p id Accepted (J a.ask.who) unbooked,
            subst (λ (q : ℕ). is_forwarded p id (history s O (step ∷ past) q) ≡ true) a.beneficiary (persists_step s O step past a.ask.who (λ K. is_forwarded p id K ≡ true) (forwarded_kept p id) a.forwarded),
          )
    ]
