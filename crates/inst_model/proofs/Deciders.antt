-- Each outcome is decided by a step of a party that may decide so.
use Rattle.std.proofs.Common.{◌≡◌, ℕ, Bool, true, false, ◌&&◌, cond, eqb, List, Option, Some, None, ◌⊎◌, inl, inr, ap, ◌∙◌, subst}
use Rattle.std.proofs.lemmas.Bool.{and_parts, eqb-true}
use Rattle.std.proofs.lemmas.Option.{same_Some, none-some}
use Rattle.inst_base.specs.TimeLimit.{is_due, is_in_time_to_accept}
use Rattle.inst_settings.specs.Settings.{HubSettings}
use Rattle.inst_command.specs.Deciding.{timed_out_or, confirmed, rejected, expired}
use Rattle.inst_command.specs.declared.command.Command.{Command}
use Rattle.inst_command.specs.declared.command.Command.TheVariants.{Fund, Defund, Submit, Confirm, Reject, Investigate, Fetch, Query}
use Rattle.inst_command.specs.declared.outcome.Outcome.{Outcome}
use Rattle.inst_command.specs.declared.outcome.Outcome.TheVariants.{Accepted, Rejected, TimedOut}
use Rattle.inst_command.specs.declared.step.Step.{Step}
use Rattle.inst_command.specs.declared.step.Step.TheVariants.{Ask, Deliver, Learn, Expire}
use Rattle.inst_journal.specs.declared.event.Event.{Event}
use Rattle.inst_journal.specs.Booked.{or_else, same_transfer, is_forwarded}
use Rattle.inst_model.specs.Transfer.{Transfer, at_place, deadline, is_named}
use Rattle.inst_model.specs.Wants.{is_addressed, ask_wants, step_wants, wants}
use Rattle.inst_model.specs.Hub.{history}
use Rattle.inst_model.specs.Deciders.{asks, IsConfirmation, IsRejection, IsInvestigation, IsExpiry, IsBy, EachOutcomeIsAPartys}
use Rattle.inst_model.proofs.BeneficiaryBooksAccepted.{when_true, wants_taken}
use Rattle.inst_model.proofs.TextsTestsAndFirstThings.{same_transfer-true}

-- what is decided is the time-out or what is wanted early
late_or_early : (d at : ℕ) (early : Option Outcome) (o : Outcome) → timed_out_or d at early ≡ Some o → (TimedOut ≡ o) ⊎ (early ≡ Some o)
late_or_early d at early o e = cases (is_due d at) e
  where
    cases : (b : Bool) → cond b (Some TimedOut) early ≡ Some o → (TimedOut ≡ o) ⊎ (early ≡ Some o)
    cases true is = inl (same_Some TimedOut o is)
    cases false is = inr is

accepted_early : (b : Bool) (o : Outcome) → cond b (Some Accepted) None ≡ Some o → Accepted ≡ o
accepted_early true o e = same_Some Accepted o e
accepted_early false o e = absurd (none-some o e)

-- who is addressed is the beneficiary, to which the transfer has come
pub record IsForTheBeneficiary (J : ℕ → List Event) (who from : ℕ) (other : List ℕ) (p : ℕ) (id : List ℕ) (x : Transfer) : Type 0 where
  pub originator : from ≡ p
  pub name : other ≡ id
  pub beneficiary : who ≡ x.to
  pub came : is_forwarded p id (J x.to) ≡ true

addressed : (J : ℕ → List Event) (who from : ℕ) (other : List ℕ) (p : ℕ) (id : List ℕ) (x : Transfer) → is_addressed J who from other p id x ≡ true → IsForTheBeneficiary J who from other p id x
addressed J who from other p id x e =
    let last = and_parts (same_transfer p id from other && eqb who x.to) (is_forwarded p id (J who)) e in
    let first = and_parts (same_transfer p id from other) (eqb who x.to) last.0 in
    let same = same_transfer-true p id from other first.0 in
    let beneficiary : who ≡ x.to = eqb-true who x.to first.1 in
    record {
      originator = same.0;
      name = same.1;
      beneficiary = beneficiary;
      came = subst (λ (q : ℕ). is_forwarded p id (J q) ≡ true) beneficiary last.1;
    }

-- an ask that names the same transfer, by the same asker
same_ask : (command : ℕ → List ℕ → Command) (who q from p at : ℕ) (other id : List ℕ) → who ≡ q → from ≡ p → other ≡ id → asks who (command from other) at ≡ asks q (command p id) at
same_ask command who q from p at other id asker originator name =
    ap (λ (w : ℕ). asks w (command from other) at) asker ∙ ap (λ (f : ℕ). asks q (command f other) at) originator
    ∙ ap (λ (t : List ℕ). asks q (command p t) at) name

confirms : (J : ℕ → List Event) (who at from : ℕ) (other : List ℕ) (p : ℕ) (id : List ℕ) (x : Transfer) → IsForTheBeneficiary J who from other p id x → IsConfirmation J (asks who (Confirm from other) at) p id x
confirms J who at from other p id x is = (at, same_ask (λ f t. Confirm f t) who x.to from p at other id is.beneficiary is.originator is.name, is.came)

rejects : (J : ℕ → List Event) (who at from : ℕ) (other reason : List ℕ) (p : ℕ) (id : List ℕ) (x : Transfer) → IsForTheBeneficiary J who from other p id x
    → IsRejection J (asks who (Reject from other reason) at) p id x reason
rejects J who at from other reason p id x is = (at, same_ask (λ f t. Reject f t reason) who x.to from p at other id is.beneficiary is.originator is.name, is.came)

-- an ask that decides is of a party
ask_by : (s : HubSettings) (J : ℕ → List Event) (who at p : ℕ) (id : List ℕ) (x : Transfer) (o : Outcome) (command : Command)
    → ask_wants s J who command at p id x ≡ Some o → IsBy J (asks who command at) p id x o
ask_by s J who at p id x o (Confirm from other) e =
    let step : Step = asks who (Confirm from other) at in
    let is = when_true (is_addressed J who from other p id x) (confirmed s.margin (deadline s x) at) o e in
    let by : IsConfirmation J step p id x = confirms J who at from other p id x (addressed J who from other p id x is.0) in
    elim (late_or_early (deadline s x) at (cond (is_in_time_to_accept s.margin (deadline s x) at) (Some Accepted) None) o is.1) [
      | inl late ↦ subst (λ (q : Outcome). IsBy J step p id x q) late (inl (inl by))
      | inr early ↦ subst (λ (q : Outcome). IsBy J step p id x q) (accepted_early (is_in_time_to_accept s.margin (deadline s x) at) o early) by
    ]
ask_by s J who at p id x o (Reject from other reason) e =
    let step : Step = asks who (Reject from other reason) at in
    let is = when_true (is_addressed J who from other p id x) (rejected reason (deadline s x) at) o e in
    let by : IsRejection J step p id x reason = rejects J who at from other reason p id x (addressed J who from other p id x is.0) in
    elim (late_or_early (deadline s x) at (Some (Rejected reason)) o is.1) [
      | inl late ↦ subst (λ (q : Outcome). IsBy J step p id x q) late (inl (inr (reason, by)))
      | inr early ↦ subst (λ (q : Outcome). IsBy J step p id x q) (same_Some (Rejected reason) o early) by
    ]
ask_by s J who at p id x o (Investigate other) e =
    let step : Step = asks who (Investigate other) at in
    let is = when_true (same_transfer p id who other) (expired (deadline s x) at) o e in
    let same = same_transfer-true p id who other is.0 in
    let by : IsInvestigation step p id =
    (at, ap (λ (w : ℕ). asks w (Investigate other) at) same.0 ∙ ap (λ (t : List ℕ). asks p (Investigate t) at) same.1) in
    elim (late_or_early (deadline s x) at None o is.1) [
      | inl late ↦ subst (λ (q : Outcome). IsBy J step p id x q) late (inr (inl by))
      | inr early ↦ absurd (none-some o early)
    ]
ask_by s J who at p id x o (Fund funding) e = absurd (none-some o e)
ask_by s J who at p id x o (Defund funding) e = absurd (none-some o e)
ask_by s J who at p id x o (Submit submission) e = absurd (none-some o e)
ask_by s J who at p id x o (Fetch max) e = absurd (none-some o e)
ask_by s J who at p id x o (Query query) e = absurd (none-some o e)

-- a step that decides is of a party
step_by : (s : HubSettings) (J : ℕ → List Event) (step : Step) (p : ℕ) (id : List ℕ) (x : Transfer) (o : Outcome) → step_wants s J step p id x ≡ Some o → IsBy J step p id x o
step_by s J (Ask ask) p id x o e = ask_by s J ask.who ask.at p id x o ask.command e
step_by s J (Deliver from index to) p id x o e = absurd (none-some o e)
step_by s J (Learn who from index) p id x o e = absurd (none-some o e)
step_by s J (Expire who index at) p id x o e =
    let step : Step = Expire who index at in
    let is = when_true (eqb who p && is_named id (at_place p (J p) index)) (expired (deadline s x) at) o e in
    let parts = and_parts (eqb who p) (is_named id (at_place p (J p) index)) is.0 in
    let by : IsExpiry J step p id = (index, at, ap (λ (w : ℕ). Expire w index at) (eqb-true who p parts.0), parts.1) in
    elim (late_or_early (deadline s x) at None o is.1) [
      | inl late ↦ subst (λ (q : Outcome). IsBy J step p id x q) late (inr (inr by))
      | inr early ↦ absurd (none-some o early)
    ]

pub each_outcome_is_a_partys : EachOutcomeIsAPartys
each_outcome_is_a_partys s O past step p id o none e =
    let wanted : wants s (history s O past) step p id ≡ Some o = subst (λ (before : Option Outcome). or_else before (wants s (history s O past) step p id) ≡ Some o) none e in
    let taken = wants_taken s (history s O past) step p id o wanted in
    record { terms = taken.0; taken = taken.1; by = step_by s (history s O past) step p id taken.0 o taken.2 }
