-- After a closing everyone is told: each party has booked what is decided, and what is pending has come.
use Rattle.std.proofs.Common.{◌≡◌, ℕ, zero, suc, ◌<◌, true, false, List, [], ◌∷◌, ◌++◌, length, Option, Some, None, is_none, refl, sym, ap, subst, ◌∙◌, inl, inr, ◌⊎◌, arith, ltb-true, Contains}
use Rattle.std.specs.List.{slice_get}
use Rattle.std.proofs.lemmas.Bool.{cases_Bool, true≢false, and_from, lt-ltb}
use Rattle.std.proofs.lemmas.Option.{same_Some}
use Rattle.inst_settings.specs.Settings.{HubSettings, participants, is_participant}
use Rattle.inst_command.specs.declared.outcome.Outcome.{Outcome}
use Rattle.inst_command.specs.declared.step.Step.{Step}
use Rattle.inst_command.specs.declared.step.Step.TheVariants.{Ask, Deliver, Learn, Expire}
use Rattle.inst_journal.specs.declared.event.Event.{Event}
use Rattle.inst_journal.specs.Booked.{is_forwarded, booked}
use Rattle.inst_journal.specs.Opened.{carried, is_live}
use Rattle.inst_journal.proofs.EventsCarriedOverOpening.{carried_booked}
use Rattle.inst_journal.proofs.CountsOfEvents.{submissions_within}
use Rattle.inst_journal.proofs.OwnBookings.{own_unforwarded}
use Rattle.inst_model.specs.Closing.{is_telling, IsClosing, NothingIsLeftToTell}
use Rattle.inst_model.specs.Interleaving.{IsInterleaving}
use Rattle.inst_model.specs.Opening.{Opening, IsOpening}
use Rattle.inst_model.specs.Transfer.{Transfer, transfers, live_transfers, at_place, transfer}
use Rattle.inst_model.specs.Hub.{outcome, history}
use Rattle.inst_model.specs.Wants.{wants}
use Rattle.inst_model.proofs.BeneficiaryBooksAccepted.{wants_taken}
use Rattle.inst_model.proofs.TextsTestsAndFirstThings.{Each, Each_weaker, Each_contains, Each_at, or_else_cases}
use Rattle.inst_model.proofs.HistoriesBeginSoundAndClosed.{beginning_sound}
use Rattle.inst_model.proofs.BookingsAreOfParties.{booked_party}
use Rattle.inst_model.proofs.HistoryKeepsWhatItHas.{booked_kept, forwarded_kept}
use Rattle.inst_model.proofs.Histories.{persists_step}
use Rattle.inst_model.proofs.WhatIsLearntIsBooked.{learning_books, delivery_forwards}
use Rattle.inst_model.proofs.LiveForwardedTransfers.{length_live}
use Rattle.inst_model.proofs.NamesOfTransfers.{identifiers_name}
use Rattle.inst_model.proofs.Outcomes.{booked_outcome}
use Rattle.inst_model.proofs.Strangers.{of_a_participant}
use Rattle.inst_model.proofs.StepsThatOnlyTell.{OnlyTells, same_outcome, same_live, came_before}
use Rattle.inst_model.proofs.AllHistoriesTogether.{together, live_together}
use Rattle.inst_model.proofs.Transfers.{taken_transfer, transfer_kept, place_there, each_to_participant}

pub each_append : {A : Type 0} (P : A → Type 0) (xs ys : List A) → Each P xs → Each P ys → Each P (xs ++ ys)
each_append P [] ys front back = back
each_append P (x ∷ xs) ys front back = (front.0, each_append P xs ys front.1 back)

-- what has an outcome was taken
pub decided_taken : (s : HubSettings) (O : Opening) → IsOpening s O → (L : List Step) (p : ℕ) (id : List ℕ) (o : Outcome) → outcome s O L p id ≡ Some o → (x : Transfer) × (transfer id (history s O L p) ≡ Some x)
decided_taken s O opened [] p id o e = elim (booked_party s p p id o (history s O [] p) (beginning_sound s O opened p) e) [
  | inl own ↦ taken_transfer id (history s O [] p) own.1
  | inr came ↦ absurd (true≢false (sym came ∙ own_unforwarded s p id (history s O [] p) (beginning_sound s O opened p)))
]
decided_taken s O opened (step ∷ past) p id o e =
    let kept : (x : Transfer) → transfer id (history s O past p) ≡ Some x → transfer id (history s O (step ∷ past) p) ≡ Some x = λ x is.
    persists_step s O step past p (λ K. transfer id K ≡ Some x) (λ K event. transfer_kept id K event x) is in
    elim (or_else_cases (outcome s O past p id) (wants s (history s O past) step p id) o e) [
      | inl old ↦ let was = decided_taken s O opened past p id o old in (was.0, kept was.0 was.1)
      | inr new ↦ let was = wants_taken s (history s O past) step p id o new.1 in (was.0, kept was.0 was.1)
    ]

-- what a step that tells has done
abbrev IsDone : HubSettings → Opening → List Step → Step → Type 0
IsDone s O L (Deliver from index who) = (x : Transfer) → at_place from (history s O L from) index ≡ Some x → x.to ≡ who → outcome s O L from x.id ≡ None → is_forwarded from x.id (history s O L who) ≡ true
IsDone s O L (Learn who from index) =
    (x : Transfer) (o : Outcome) → at_place from (history s O L from) index ≡ Some x → outcome s O L from x.id ≡ Some o → (who ≡ from) ⊎ (is_forwarded from x.id (history s O L who) ≡ true)
    → booked from x.id (history s O L who) ≡ Some o
IsDone s O L (Ask ask) = Unit {0}
IsDone s O L (Expire who index at) = Unit {0}

-- a place, an outcome and a party after a step that tells were the same before it
stood : (s : HubSettings) (O : Opening) (step : Step) (past : List Step) → is_telling step ≡ true → (from index : ℕ) (x : Transfer) → at_place from (history s O (step ∷ past) from) index ≡ Some x → at_place from (history s O past from) index ≡ Some x
stood s O step past tells from index x there = ap (λ T. slice_get T index) (sym (same_live s O step past tells from)) ∙ there

was_party : (s : HubSettings) (O : Opening) (step : Step) (past : List Step) → is_telling step ≡ true → (who from : ℕ) (id : List ℕ) (o : Outcome) → outcome s O past from id ≡ Some o
    → (who ≡ from) ⊎ (is_forwarded from id (history s O (step ∷ past) who) ≡ true) → (who ≡ from) ⊎ (is_forwarded from id (history s O past who) ≡ true)
was_party s O step past tells who from id o is party = elim party [
  | inl own ↦ inl own
  | inr came ↦ inr (came_before s O step past tells who from id o is came)
]

done_now : (s : HubSettings) (O : Opening) → IsOpening s O → (step : Step) (past : List Step) → is_telling step ≡ true → IsDone s O (step ∷ past) step
done_now s O opened (Deliver from index who) past tells = λ x there to none.
    let step : Step = Deliver from index who in
    subst (λ w. is_forwarded from x.id (history s O (Deliver from index w ∷ past) w) ≡ true) to
    (delivery_forwards s O past from index x (stood s O step past tells from index x there) (sym (same_outcome s O step past tells from x.id) ∙ none))
done_now s O opened (Learn who from index) past tells = λ x o there is party.
    let step : Step = Learn who from index in
    let was : outcome s O past from x.id ≡ Some o = sym (same_outcome s O step past tells from x.id) ∙ is in
    learning_books s O opened past who from index x o (stood s O step past tells from index x there) was (was_party s O step past tells who from x.id o was party)
done_now s O opened (Ask ask) past tells = tt
done_now s O opened (Expire who index at) past tells = tt

done_later : (s : HubSettings) (O : Opening) (step : Step) (past : List Step) → is_telling step ≡ true → (t : Step) → IsDone s O past t → IsDone s O (step ∷ past) t
done_later s O step past tells (Deliver from index who) done = λ x there to none.
    persists_step s O step past who (λ K. is_forwarded from x.id K ≡ true) (forwarded_kept from x.id)
    (done x (stood s O step past tells from index x there) to (sym (same_outcome s O step past tells from x.id) ∙ none))
done_later s O step past tells (Learn who from index) done = λ x o there is party.
    let was : outcome s O past from x.id ≡ Some o = sym (same_outcome s O step past tells from x.id) ∙ is in
    persists_step s O step past who (λ K. booked from x.id K ≡ Some o) (booked_kept from x.id o)
    (done x o (stood s O step past tells from index x there) was (was_party s O step past tells who from x.id o was party))
done_later s O step past tells (Ask ask) done = tt
done_later s O step past tells (Expire who index at) done = tt

each_done : (s : HubSettings) (O : Opening) → IsOpening s O → (L M : List Step) → OnlyTells M → Each (IsDone s O (M ++ L)) M
each_done s O opened L [] tells = tt
each_done s O opened L (step ∷ M) tells = (
  done_now s O opened step (M ++ L) tells.0,
  Each_weaker (IsDone s O (M ++ L)) (IsDone s O (step ∷ (M ++ L))) M (done_later s O step (M ++ L) tells.0) (each_done s O opened L M tells.1),
)

-- everyone is told
pub record AllTold (s : HubSettings) (O : Opening) (C : List Step) : Type 0 where
  pub steps : IsInterleaving s C
  pub originator : (from : ℕ) (id : List ℕ) (o : Outcome) → outcome s O C from id ≡ Some o → booked from id (history s O C from) ≡ Some o
  pub beneficiary : (to from : ℕ) (id : List ℕ) (o : Outcome) → is_forwarded from id (history s O C to) ≡ true → outcome s O C from id ≡ Some o → booked from id (history s O C to) ≡ Some o
  pub come : (from index : ℕ) (x : Transfer) → at_place from (history s O C from) index ≡ Some x → outcome s O C from x.id ≡ None → is_forwarded from x.id (history s O C x.to) ≡ true

place_below : (xs : List Transfer) (k : ℕ) (x : Transfer) → slice_get xs k ≡ Some x → k < length xs
place_below [] k x e = absurd cc
place_below (y ∷ xs) zero x e = omega arith
place_below (y ∷ xs) (suc k) x e = omega (arith, place_below xs k x e)

some_of : (o : Option Outcome) → is_none o ≡ false → (x : Outcome) × (o ≡ Some x)
some_of None e = absurd (true≢false e)
some_of (Some x) e = (x, refl)

-- what isn't live was booked as it was decided
booked_before : (s : HubSettings) (O : Opening) → IsOpening s O → (C : List Step) (who from : ℕ) (id : List ℕ) (o : Outcome) → outcome s O C from id ≡ Some o → is_none (booked from id (carried (history s O C who))) ≡ false
    → booked from id (history s O C who) ≡ Some o
booked_before s O opened C who from id o is settled =
    let was = some_of (booked from id (carried (history s O C who))) settled in
    let now : booked from id (history s O C who) ≡ Some was.0 = carried_booked from id (history s O C who) was.0 was.1 in
    let same : was.0 ≡ o = same_Some was.0 o (sym (booked_outcome s O opened C who from id was.0 now) ∙ is) in
    now ∙ ap Some same

-- a place of a participant, below the number of places, with its beneficiary
record Stands (s : HubSettings) (from index : ℕ) (x : Transfer) : Type 0 where
  originator : from < participants s
  beneficiary : x.to < participants s
  within : index < s.places

stands : (s : HubSettings) (O : Opening) → IsOpening s O → (C : List Step) → IsInterleaving s C → (from index : ℕ) (x : Transfer) → at_place from (history s O C from) index ≡ Some x → Stands s from index x
stands s O opened C steps from index x there =
    let J : List Event = history s O C from in
    let sound = (together s O opened C steps).sound from in
    let taken = place_there from J index x there in
    record {
      originator = ltb-true from (participants s) (of_a_participant s O opened C steps from index x there);
      beneficiary = Each_at (λ (t : Transfer). t.to < length s.codes) (transfers J) taken.0 x (each_to_participant s from J sound) taken.1;
      within = omega (arith, place_below (live_transfers from J) index x there, length_live from J, submissions_within s from J sound);
    }

-- where what is pending at a place has come, and each party has learnt of each place, everyone is told
told_of_places : (s : HubSettings) (O : Opening) → IsOpening s O → (C : List Step) → IsInterleaving s C
    → ((from index : ℕ) (x : Transfer) → Stands s from index x → at_place from (history s O C from) index ≡ Some x → outcome s O C from x.id ≡ None → is_forwarded from x.id (history s O C x.to) ≡ true)
    → ((who from index : ℕ) (x : Transfer) (o : Outcome) → who < participants s → Stands s from index x → at_place from (history s O C from) index ≡ Some x → outcome s O C from x.id ≡ Some o
    → (who ≡ from) ⊎ (is_forwarded from x.id (history s O C who) ≡ true) → booked from x.id (history s O C who) ≡ Some o)
    → AllTold s O C
told_of_places s O opened C steps come learn = record {
  steps = steps;
  originator = originator;
  beneficiary = beneficiary;
  come = λ from index x there none. come from index x (stands s O opened C steps from index x there) there none;
}
  where
    -- a party of a live transfer has learnt its outcome
    learnt : (who from : ℕ) (id : List ℕ) (x : Transfer) (o : Outcome) → transfer id (history s O C from) ≡ Some x → is_live from id (history s O C from) ≡ true → outcome s O C from id ≡ Some o
        → (who ≡ from) ⊎ ((x.to ≡ who) × (is_forwarded from id (history s O C who) ≡ true)) → booked from id (history s O C who) ≡ Some o
    learnt who from id x o found live is party =
        let named = identifiers_name s O C from id x found live in
        let at = stands s O opened C steps from named.0 x named.1 in
        let there : who < participants s = elim party [
          | inl own ↦ subst (λ w. w < participants s) (sym own) at.originator
          | inr came ↦ subst (λ w. w < participants s) came.0 at.beneficiary
        ] in
        let to_x : (who ≡ from) ⊎ (is_forwarded from x.id (history s O C who) ≡ true) = elim party [
          | inl own ↦ inl own
          | inr came ↦ inr (ap (λ (i : List ℕ). is_forwarded from i (history s O C who)) named.2 ∙ came.1)
        ] in
        let of_x : booked from x.id (history s O C who) ≡ Some o = learn who from named.0 x o there at named.1 (ap (λ (i : List ℕ). outcome s O C from i) named.2 ∙ is) to_x in
        ap (λ (i : List ℕ). booked from i (history s O C who)) (sym named.2) ∙ of_x

    originator : (from : ℕ) (id : List ℕ) (o : Outcome) → outcome s O C from id ≡ Some o → booked from id (history s O C from) ≡ Some o
    originator from id o is = elim (cases_Bool (is_live from id (history s O C from))) [
      | inl live ↦ let taken = decided_taken s O opened C from id o is in learnt from from id taken.0 o taken.1 live is (inl refl)
      | inr settled ↦ booked_before s O opened C from from id o is settled
    ]

    beneficiary : (to from : ℕ) (id : List ℕ) (o : Outcome) → is_forwarded from id (history s O C to) ≡ true → outcome s O C from id ≡ Some o → booked from id (history s O C to) ≡ Some o
    beneficiary to from id o came is = elim (cases_Bool (is_live from id (history s O C from))) [
      | inl live ↦ let taken = (together s O opened C steps).taken to from id came in learnt to from id taken.0 o taken.1 live is (inr (taken.2, came))
      | inr settled ↦ booked_before s O opened C to from id o is (live_together s O opened C steps to from id came ∙ settled)
    ]

-- a closing tells everyone
pub all_told : (s : HubSettings) (O : Opening) → IsOpening s O → (L M : List Step) → IsInterleaving s L → IsClosing s M → AllTold s O (M ++ L)
all_told s O opened L M steps closes =
    told_of_places s O opened (M ++ L) (each_append _ M L closes.fits steps)
    (λ from index x at there none. done (Deliver from index x.to) (closes.delivers x.to from index at.beneficiary at.originator at.within) x there refl none)
    (λ who from index x o one at there is party. done (Learn who from index) (closes.learns who from index one at.originator at.within) x o there is party)
  where
    done : (step : Step) → Contains M step → IsDone s O (M ++ L) step
    done step there = Each_contains (IsDone s O (M ++ L)) M step (each_done s O opened L M closes.only_tells) there

-- where nothing is left to tell everyone is told
pub quiet_told : (s : HubSettings) (O : Opening) → IsOpening s O → (C : List Step) → IsInterleaving s C → NothingIsLeftToTell s O C → AllTold s O C
quiet_told s O opened C steps quiet =
    told_of_places s O opened C steps
    (λ from index x at there none.
    let same : history s O (Deliver from index x.to ∷ C) x.to ≡ history s O C x.to =
    quiet (Deliver from index x.to) refl (and_from (is_participant s from) (is_participant s x.to) (lt-ltb from (participants s) at.originator) (lt-ltb x.to (participants s) at.beneficiary)) x.to in
    ap (is_forwarded from x.id) (sym same) ∙ delivery_forwards s O C from index x there none)
    (λ who from index x o one at there is party.
    let same : history s O (Learn who from index ∷ C) who ≡ history s O C who =
    quiet (Learn who from index) refl (and_from (is_participant s who) (is_participant s from) (lt-ltb who (participants s) one) (lt-ltb from (participants s) at.originator)) who in
    ap (booked from x.id) (sym same) ∙ learning_books s O opened C who from index x o there is party)
