-- Nothing is live of a number that no participant has.
use Rattle.std.proofs.Common.{◌≡◌, ℕ, Bool, true, false, cond, eqb, List, [], ◌∷◌, Option, Some, refl, sym, ap, ◌∙◌, inl, inr, Contains}
use Rattle.std.proofs.lemmas.Bool.{false≢true, cases_Bool, and_parts, eqb-true}
use Rattle.inst_settings.specs.Settings.{HubSettings, is_participant}
use Rattle.inst_command.specs.Ask.{command_fits}
use Rattle.inst_command.specs.Step.{step_fits}
use Rattle.inst_command.specs.declared.outcome.Outcome.{Outcome}
use Rattle.inst_command.specs.declared.step.Step.{Step}
use Rattle.inst_command.specs.declared.step.Step.TheVariants.{Ask, Deliver, Learn, Expire}
use Rattle.inst_journal.specs.declared.event.Event.{Event}
use Rattle.inst_journal.specs.declared.event.Event.TheVariants.{Funded, Defunded, Taken, Forwarded, Booked, Fetched, Opened}
use Rattle.inst_journal.specs.Booked.{is_forwarded, forwards}
use Rattle.inst_journal.specs.Sound.{Fits, IsSound}
use Rattle.inst_journal.proofs.Soundness.{sound_induction}
use Rattle.inst_journal.proofs.OneMoreElement.{list_any_push}
use Rattle.inst_model.specs.Interleaving.{IsInterleaving}
use Rattle.inst_model.specs.Opening.{Opening, IsOpening, beginning}
use Rattle.inst_model.specs.Transfer.{Transfer, transfers, at_place}
use Rattle.inst_model.specs.View.{sees}
use Rattle.inst_model.specs.Kept.{with_entries}
use Rattle.inst_model.specs.Hub.{decided, outcome, history}
use Rattle.inst_model.proofs.TextsTestsAndFirstThings.{Each_at, same_transfer-true}
use Rattle.inst_model.proofs.HistoriesBeginSoundAndClosed.{beginning_sound}
use Rattle.inst_model.proofs.Events.{taken_event, each_there}
use Rattle.inst_model.proofs.Histories.{history_step}
use Rattle.inst_model.proofs.LiveTransfersOnBothSides.{at_an_opening_the_live_have_come}
use Rattle.inst_model.proofs.Transfers.{place_there, place_live}
use Rattle.std.proofs.lemmas.Bool.{or_cases}

-- somebody else
another : (s : HubSettings) (who p : ℕ) → is_participant s who ≡ true → is_participant s p ≡ false → eqb who p ≡ false
another s who p one none = elim (cases_Bool (eqb who p)) [
  | inl same ↦ absurd (false≢true (sym none ∙ ap (is_participant s) (sym (eqb-true who p same)) ∙ one))
  | inr other ↦ other
]

pub unseen : {A : Type 0} (b : Bool) (x : List A) → b ≡ false → cond b x [] ≡ []
unseen b x e = ap (λ c. cond c x []) e

-- a number that no participant has sees nothing
sees_nothing : (s : HubSettings) (J : ℕ → List Event) (before after : ℕ → List ℕ → Option Outcome) (step : Step) (p : ℕ) → step_fits s step ≡ true → is_participant s p ≡ false → sees s J before after step p ≡ []
sees_nothing s J before after (Ask ask) p fits none =
    unseen (eqb ask.who p) _ (another s ask.who p (and_parts (is_participant s ask.who) (command_fits s ask.command) fits).0 none)
sees_nothing s J before after (Deliver from index to) p fits none =
    unseen (eqb to p) _ (another s to p (and_parts (is_participant s from) (is_participant s to) fits).1 none)
sees_nothing s J before after (Learn who from index) p fits none =
    unseen (eqb who p) _ (another s who p (and_parts (is_participant s who) (is_participant s from) fits).0 none)
sees_nothing s J before after (Expire who index at) p fits none = unseen (eqb who p) _ (another s who p fits none)

stays_as_it_begins : (s : HubSettings) (O : Opening) (L : List Step) → IsInterleaving s L → (p : ℕ) → is_participant s p ≡ false → history s O L p ≡ beginning O p
stays_as_it_begins s O [] steps p none = refl
stays_as_it_begins s O (step ∷ past) steps p none =
    let J : ℕ → List Event = history s O past in
    history_step s O step past p
    ∙ ap (with_entries s p (J p)) (sees_nothing s J (outcome s O past) (decided s J (outcome s O past) step) step p steps.0 none)
    ∙ stays_as_it_begins s O past steps.1 p none

-- what is forwarded is from a participant
from_participant : (s : HubSettings) (who from : ℕ) (id : List ℕ) (J : List Event) → IsSound s who J → is_forwarded from id J ≡ true → is_participant s from ≡ true
from_participant s who from id =
    sound_induction s who (λ J. is_forwarded from id J ≡ true → is_participant s from ≡ true) (λ e. absurd (false≢true e))
    (λ J event sound fits before e.
    elim (or_cases (is_forwarded from id J) (forwards from id event) (sym (list_any_push (forwards from id) J event) ∙ e)) [
      | inl old ↦ before old
      | inr new ↦ forwarded_now J event fits new
    ])
  where
    forwarded_now : (J : List Event) (event : Event) → Fits s who J event → forwards from id event ≡ true → is_participant s from ≡ true
    forwarded_now J (Forwarded other_from other cents d) fits e = ap (is_participant s) (sym (same_transfer-true from id other_from other e).0) ∙ fits.originator
    forwarded_now J (Funded funding) fits e = absurd (false≢true e)
    forwarded_now J (Defunded funding) fits e = absurd (false≢true e)
    forwarded_now J (Taken other to cents stamp) fits e = absurd (false≢true e)
    forwarded_now J (Booked other_from other o) fits e = absurd (false≢true e)
    forwarded_now J (Fetched count) fits e = absurd (false≢true e)
    forwarded_now J Opened fits e = absurd (false≢true e)

-- who has a transfer at a place at the opening is a participant
begins_with_a_participant : (s : HubSettings) (O : Opening) → IsOpening s O → (p index : ℕ) (x : Transfer) → at_place p (beginning O p) index ≡ Some x → is_participant s p ≡ true
begins_with_a_participant s O opened p index x there =
    let J : List Event = beginning O p in
    let taken = place_there p J index x there in
    let event : Contains J (taken_event x) = Each_at (λ (t : Transfer). Contains J (taken_event t)) (transfers J) taken.0 x (each_there J) taken.1 in
    let came = at_an_opening_the_live_have_come s O opened p x.to x.id x.cents x.stamp event (place_live p J index x there) in
    from_participant s x.to p x.id (beginning O x.to) (beginning_sound s O opened x.to) came.0

-- who has a transfer at a place is a participant
pub of_a_participant : (s : HubSettings) (O : Opening) → IsOpening s O → (L : List Step) → IsInterleaving s L → (p index : ℕ) (x : Transfer) → at_place p (history s O L p) index ≡ Some x → is_participant s p ≡ true
of_a_participant s O opened L steps p index x there = elim (cases_Bool (is_participant s p)) [
  | inl one ↦ one
  | inr none ↦ begins_with_a_participant s O opened p index x (ap (λ J. at_place p J index) (sym (stays_as_it_begins s O L steps p none)) ∙ there)
]
