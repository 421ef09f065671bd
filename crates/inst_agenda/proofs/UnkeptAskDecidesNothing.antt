-- An ask of which its asker keeps nothing decides nothing: so it leaves every transfer as it is.
use Rattle.std.proofs.Common.{◌≡◌, ℕ, ◌<◌, ◌≤◌, List, [], ◌∷◌, length, Option, Some, None, refl, sym, ap, subst, ◌∙◌, inl, inr, ◌⊎◌, arith}
use Rattle.std.proofs.lemmas.Bool.{cases_eq}
use Rattle.std.proofs.lemmas.List.{length-append}
use Rattle.inst_settings.specs.Settings.{HubSettings}
use Rattle.inst_command.specs.declared.ask.Ask.{Ask as AskValue}
use Rattle.inst_command.specs.declared.command.Command.TheVariants.{Confirm, Reject, Investigate}
use Rattle.inst_command.specs.declared.outcome.Outcome.{Outcome}
use Rattle.inst_command.specs.declared.outcome.Outcome.TheVariants.{Accepted, Rejected, TimedOut}
use Rattle.inst_command.specs.declared.step.Step.{Step}
use Rattle.inst_command.specs.declared.step.Step.TheVariants.{Ask}
use Rattle.inst_journal.specs.declared.event.Event.{Event}
use Rattle.inst_journal.specs.Booked.{booked}
use Rattle.inst_model.specs.Opening.{Opening, IsOpening}
use Rattle.inst_model.specs.Transfer.{Transfer}
use Rattle.inst_model.specs.Hub.{outcome, history}
use Rattle.inst_model.specs.Deciders.{asks, IsConfirmation, IsRejection, IsBy, IsAPartys}
use Rattle.inst_model.proofs.AskerIsToldOutcome.{asking_tells}
use Rattle.inst_model.proofs.Deciders.{each_outcome_is_a_partys}
use Rattle.inst_model.proofs.Histories.{persists_step}
use Rattle.inst_model.proofs.Outcomes.{outcome_later, booked_outcome}
use Rattle.inst_model.proofs.Transfers.{transfer_taken}
use Rattle.inst_world.proofs.PlacesOfLiveTransfers.{actor, others_stay}

-- a step leaves a history, or makes it longer
same_or_longer : (s : HubSettings) (O : Opening) (step : Step) (L : List Step) (p : ℕ)
    → (history s O (step ∷ L) p ≡ history s O L p) ⊎ (length (history s O L p) < length (history s O (step ∷ L) p))
same_or_longer s O step L p =
    let J : List Event = history s O L p in
    persists_step s O step L p (λ K. (K ≡ J) ⊎ (length J < length K)) (λ K event before. inr (elim before [
      | inl same ↦ let one_more = length-append K (event ∷ []) in let long : length K ≡ length J = ap length same in omega (arith, one_more, long)
      | inr longer ↦ let one_more = length-append K (event ∷ []) in omega (arith, one_more, longer)
    ])) (inl refl)

pub no_longer_is_same : (s : HubSettings) (O : Opening) (step : Step) (L : List Step) (p n : ℕ)
    → length (history s O L p) ≡ n → length (history s O (step ∷ L) p) ≤ n → history s O (step ∷ L) p ≡ history s O L p
no_longer_is_same s O step L p n before after = elim (same_or_longer s O step L p) [
  | inl same ↦ same
  | inr longer ↦ let no : ⊥ = omega (arith, before, after, longer) in absurd no
]

-- where the asker's history stays, each does
pub all_stay : (s : HubSettings) (O : Opening) (ask : AskValue) (L : List Step) → history s O (Ask ask ∷ L) ask.who ≡ history s O L ask.who
    → (p : ℕ) → history s O (Ask ask ∷ L) p ≡ history s O L p
all_stay s O ask L kept p = elim (cases_eq p ask.who) [
  | inl own ↦ ap (history s O (Ask ask ∷ L)) own ∙ kept ∙ ap (history s O L) (sym own)
  | inr other ↦ others_stay s O (Ask ask) L p other
]

module _ (s : HubSettings) (O : Opening) (opening : IsOpening s O) (L : List Step) where
  -- what the step of a party books for it, where its history stays, was the outcome before
  known_before : (step party : Step) (p : ℕ) (id : List ℕ) (o : Outcome) → step ≡ party
      → (outcome s O (party ∷ L) p id ≡ Some o → booked p id (history s O (party ∷ L) (actor party)) ≡ Some o)
      → history s O (step ∷ L) (actor step) ≡ history s O L (actor step)
      → outcome s O (step ∷ L) p id ≡ Some o → outcome s O L p id ≡ Some o
  known_before step party p id o e books kept after =
      let same : history s O (party ∷ L) (actor party) ≡ history s O L (actor party) = subst (λ t. history s O (t ∷ L) (actor t) ≡ history s O L (actor t)) e kept in
      let there : outcome s O (party ∷ L) p id ≡ Some o = subst (λ t. outcome s O (t ∷ L) p id ≡ Some o) e after in
      booked_outcome s O opening L (actor party) p id o (ap (booked p id) (sym same) ∙ books there)

  module _ (ask : AskValue) (kept : history s O (Ask ask ∷ L) ask.who ≡ history s O L ask.who) (p : ℕ) (id : List ℕ) where
    by_confirmation : (o : Outcome) (x : Transfer) → IsConfirmation (history s O L) (Ask ask) p id x → outcome s O (Ask ask ∷ L) p id ≡ Some o → outcome s O L p id ≡ Some o
    by_confirmation o x (at, e, came) = known_before (Ask ask) (asks x.to (Confirm p id) at) p id o e (λ there. ((asking_tells s O opening L x.to at o).confirmed p id came there).1) kept

    by_rejection : (o : Outcome) (x : Transfer) (reason : List ℕ) → IsRejection (history s O L) (Ask ask) p id x reason → outcome s O (Ask ask ∷ L) p id ≡ Some o → outcome s O L p id ≡ Some o
    by_rejection o x reason (at, e, came) = known_before (Ask ask) (asks x.to (Reject p id reason) at) p id o e (λ there. ((asking_tells s O opening L x.to at o).rejected p id reason came there).1) kept

    by_party : (o : Outcome) (a : IsAPartys s O L (Ask ask) p id o) → outcome s O (Ask ask ∷ L) p id ≡ Some o → outcome s O L p id ≡ Some o
    by_party o a = go o a.by
      where
        x : Transfer
        x = a.terms

        go : (q : Outcome) → IsBy (history s O L) (Ask ask) p id x q → outcome s O (Ask ask ∷ L) p id ≡ Some o → outcome s O L p id ≡ Some o
        go Accepted by = by_confirmation o x by
        go (Rejected reason) by = by_rejection o x reason by
        go TimedOut (inl (inl by)) = by_confirmation o x by
        go TimedOut (inl (inr (reason, by))) = by_rejection o x reason by
        go TimedOut (inr (inl (at, e))) =
            let taken = transfer_taken id (history s O L p) x a.taken in
            known_before (Ask ask) (asks p (Investigate id) at) p id o e (λ there. ((asking_tells s O opening L p at o).investigated id taken there).1) kept
        go TimedOut (inr (inr (index, at, e, named))) = let no : ⊥ = cc in absurd no

    -- what stands after the ask stood before it
    stood : (before after : Option Outcome) → outcome s O L p id ≡ before → outcome s O (Ask ask ∷ L) p id ≡ after → after ≡ before
    stood (Some o) after is now = sym now ∙ outcome_later s O (Ask ask) L p id o is
    stood None None is now = refl
    stood None (Some o) is now = sym (by_party o (each_outcome_is_a_partys s O L (Ask ask) p id o is now) now) ∙ is

    pub quiet_outcome : outcome s O (Ask ask ∷ L) p id ≡ outcome s O L p id
    quiet_outcome = stood (outcome s O L p id) (outcome s O (Ask ask ∷ L) p id) refl refl
