-- Where the live transfers of an originator stand in the model, and what a step leaves of that.
use Rattle.std.proofs.Common.{◌≡◌, ◌≢◌, ℕ, zero, suc, ◌≤◌, Bool, true, false, cond, eqb, List, [], ◌∷◌, Option, Some, None, is_none, refl, sym, ap, ◌∙◌, arith, sum_by}
use Rattle.std.specs.Prelude.{slice_get}
use Rattle.std.specs.List.{filter}
use Rattle.std.proofs.lemmas.Bool.{cond-true, ne_eqb}
use Rattle.std.proofs.lemmas.List.Sums.{sum_by-cons}
use Rattle.inst_settings.specs.Settings.{HubSettings, same_text}
use Rattle.inst_command.specs.declared.outcome.Outcome.{Outcome}
use Rattle.inst_command.specs.declared.step.Step.{Step}
use Rattle.inst_command.specs.declared.step.Step.TheVariants.{Ask, Deliver, Learn, Expire}
use Rattle.inst_journal.specs.declared.event.Event.{Event}
use Rattle.inst_journal.specs.declared.event.Event.TheVariants.{Funded, Defunded, Taken, Forwarded, Booked, Fetched, Opened}
use Rattle.inst_journal.specs.Booked.{booked, or_else}
use Rattle.inst_journal.specs.Opened.{carried, is_live, takes_live, live_taken}
use Rattle.inst_journal.specs.Sound.{IsSound}
use Rattle.inst_journal.proofs.CountsOfEvents.{stranger_unbooked}
use Rattle.inst_journal.proofs.OwnBookings.{own_unforwarded}
use Rattle.inst_model.specs.Opening.{Opening, IsOpening, beginning}
use Rattle.inst_model.specs.Transfer.{Transfer, terms, transfers, live_transfers, at_place, transfer}
use Rattle.inst_model.specs.Wants.{taken_wants, wants}
use Rattle.inst_model.specs.View.{Seen, sees}
use Rattle.inst_model.specs.Kept.{with_entries}
use Rattle.inst_model.specs.Hub.{decided, outcome, history}
use Rattle.inst_model.specs.Trace.{is_seen, is_some_entry}
use Rattle.inst_model.proofs.TextsTestsAndFirstThings.{same_text_refl, eqb_refl}
use Rattle.inst_model.proofs.HistoriesBeginSoundAndClosed.{beginning_sound}
use Rattle.inst_model.proofs.Histories.{history_step}
use Rattle.inst_model.proofs.Mirror.{measure_of, measure_named, single}
use Rattle.inst_model.proofs.AllHistoriesTogether.{transfer_next}
use Rattle.inst_model.proofs.Transfers.{transfer_some}
use Rattle.inst_model.proofs.Strangers.{unseen}

abbrev pub terms_in : Option Event → Option Transfer
terms_in None = None
terms_in (Some event) = terms event

live_at : (who : ℕ) (C J : List Event) (k : ℕ) → slice_get (filter (λ (x : Transfer). is_none (booked who x.id C)) (transfers J)) k ≡ terms_in (slice_get (filter (takes_live who C) J) k)
live_at who C [] k = refl
live_at who C (Taken id to cents stamp ∷ J) k = go (live_at who C J) (is_none (booked who id C)) k
  where
    x : Transfer
    x = record { id = id; to = to; cents = cents; stamp = stamp }

    go : ((n : ℕ) → slice_get (filter (λ (y : Transfer). is_none (booked who y.id C)) (transfers J)) n ≡ terms_in (slice_get (filter (takes_live who C) J) n)) → (b : Bool) (n : ℕ)
        → slice_get (cond b (record { id = id; to = to; cents = cents; stamp = stamp } ∷ filter (λ (y : Transfer). is_none (booked who y.id C)) (transfers J)) (filter (λ (y : Transfer). is_none (booked who y.id C)) (transfers J))) n
        ≡ terms_in (slice_get (cond b (Taken id to cents stamp ∷ filter (takes_live who C) J) (filter (takes_live who C) J)) n)
    go rest true zero = refl
    go rest true (suc n) = rest n
    go rest false n = rest n
live_at who C (Funded funding ∷ J) k = live_at who C J k
live_at who C (Defunded funding ∷ J) k = live_at who C J k
live_at who C (Forwarded from id cents deadline ∷ J) k = live_at who C J k
live_at who C (Booked from id o ∷ J) k = live_at who C J k
live_at who C (Fetched count ∷ J) k = live_at who C J k
live_at who C (Opened ∷ J) k = live_at who C J k

-- a place has the transfer that the live event with its number takes
pub at_taken : (who : ℕ) (J : List Event) (k : ℕ) → at_place who J k ≡ terms_in (slice_get (live_taken who J) k)
at_taken who J k = live_at who (carried J) J k

pub there_counts : {A : Type 0} (f : A → ℕ) (xs : List A) (k : ℕ) (x : A) → slice_get xs k ≡ Some x → 1 ≤ f x → 1 ≤ sum_by f xs
there_counts f [] k x e one = let no : ⊥ = cc in absurd no
there_counts f (y ∷ xs) zero x e one = let same : f y ≡ f x = ap (λ (o : Option _). elim o [ None ↦ f y | Some z ↦ f z ]) e in omega (arith, sum_by-cons f y xs, same, one)
there_counts f (y ∷ xs) (suc k) x e one = omega (arith, sum_by-cons f y xs, there_counts f xs k x e one)

once_at : {A : Type 0} (f : A → ℕ) (xs : List A) (k m : ℕ) (x y : A) → slice_get xs k ≡ Some x → slice_get xs m ≡ Some y → 1 ≤ f x → 1 ≤ f y → sum_by f xs ≤ 1 → k ≡ m
once_at f [] k m x y ex ey one other few = let no : ⊥ = cc in absurd no
once_at f (z ∷ xs) zero zero x y ex ey one other few = refl
once_at f (z ∷ xs) zero (suc m) x y ex ey one other few =
    let here : f z ≡ f x = ap (λ (o : Option _). elim o [ None ↦ f z | Some w ↦ f w ]) ex in
    absurd (omega (arith, sum_by-cons f z xs, here, one, there_counts f xs m y ey other, few))
once_at f (z ∷ xs) (suc k) zero x y ex ey one other few =
    let here : f z ≡ f y = ap (λ (o : Option _). elim o [ None ↦ f z | Some w ↦ f w ]) ey in
    absurd (omega (arith, sum_by-cons f z xs, here, other, there_counts f xs k x ex one, few))
once_at f (z ∷ xs) (suc k) (suc m) x y ex ey one other few = ap suc (once_at f xs k m x y ex ey one other (omega (arith, sum_by-cons f z xs, few)))

few_filtered : {A : Type 0} (f : A → ℕ) (p : A → Bool) (xs : List A) → sum_by f (filter p xs) ≤ sum_by f xs
few_filtered f p [] = omega arith
few_filtered {A} f p (x ∷ xs) = go (few_filtered f p xs) (p x)
  where
    go : sum_by f (filter p xs) ≤ sum_by f xs → (b : Bool) → sum_by f (cond b (x ∷ filter p xs) (filter p xs)) ≤ sum_by f (x ∷ xs)
    go rest true = omega (arith, rest, sum_by-cons f x xs, sum_by-cons f x (filter p xs))
    go rest false = omega (arith, rest, sum_by-cons f x xs)

one_at_most : (o : Option Transfer) → measure_of (λ x. 1) o ≤ 1
one_at_most None = omega arith
one_at_most (Some x) = omega arith

-- an identifier stands at one place
pub places_apart : (s : HubSettings) (who : ℕ) (J : List Event) (k m : ℕ) (x y : Transfer) → IsSound s who J → at_place who J k ≡ Some x → at_place who J m ≡ Some y → x.id ≡ y.id → k ≡ m
places_apart s who J k m x y sound ex ey same =
    let f : Transfer → ℕ = measure_named (λ z. 1) x.id in
    let few : sum_by f (live_transfers who J) ≤ 1 =
    omega (arith, few_filtered f (λ (z : Transfer). is_live who z.id J) (transfers J), single s who (λ z. 1) x.id J sound, one_at_most (transfer x.id J)) in
    let here : f x ≡ 1 = cond-true (same_text x.id x.id) 1 0 (same_text_refl x.id) in
    let there : f y ≡ 1 = ap (λ (i : List ℕ). cond (same_text x.id i) 1 0) (sym same) ∙ here in
    once_at f (live_transfers who J) k m x y ex ey (omega (arith, here)) (omega (arith, there)) few

-- who acts in a step
abbrev pub actor : Step → ℕ
actor (Ask ask) = ask.who
actor (Deliver from index to) = to
actor (Learn who from index) = who
actor (Expire who index at) = who

others_see_nothing : (s : HubSettings) (J : ℕ → List Event) (before after : ℕ → List ℕ → Option Outcome) (step : Step) (p : ℕ) → p ≢ actor step → sees s J before after step p ≡ []
others_see_nothing s J before after (Ask ask) p other = unseen (eqb ask.who p) _ (ne_eqb ask.who p (λ e. other (sym e)))
others_see_nothing s J before after (Deliver from index to) p other = unseen (eqb to p) _ (ne_eqb to p (λ e. other (sym e)))
others_see_nothing s J before after (Learn who from index) p other = unseen (eqb who p) _ (ne_eqb who p (λ e. other (sym e)))
others_see_nothing s J before after (Expire who index at) p other = unseen (eqb who p) _ (ne_eqb who p (λ e. other (sym e)))

-- a step leaves the histories of the others
pub others_stay : (s : HubSettings) (O : Opening) (step : Step) (past : List Step) (p : ℕ) → p ≢ actor step → history s O (step ∷ past) p ≡ history s O past p
others_stay s O step past p other =
    history_step s O step past p
    ∙ ap (with_entries s p (history s O past p)) (others_see_nothing s (history s O past) (outcome s O past) (decided s (history s O past) (outcome s O past) step) step p other)

-- what the actor sees makes its history, and whether it sees something
pub record Sees (s : HubSettings) (O : Opening) (step : Step) (past : List Step) (p : ℕ) (V : List Seen) : Type 0 where
  pub history_is : history s O (step ∷ past) p ≡ with_entries s p (history s O past p) V
  pub is_seen_is : is_seen s O past step p ≡ is_some_entry V

pub sees_this : (s : HubSettings) (O : Opening) (step : Step) (past : List Step) (p : ℕ) (V : List Seen) → sees s (history s O past) (outcome s O past) (decided s (history s O past) (outcome s O past) step) step p ≡ V → Sees s O step past p V
sees_this s O step past p V is = record {
  history_is = history_step s O step past p ∙ ap (with_entries s p (history s O past p)) is;
  is_seen_is = ap is_some_entry is;
}

pub if_own : {A : Type 0} (p : ℕ) (x : List A) → cond (eqb p p) x [] ≡ x
if_own p x = cond-true (eqb p p) x [] (eqb_refl p)

-- what isn't taken has no outcome
pub untaken_unbooked : (s : HubSettings) (p : ℕ) (id : List ℕ) (J : List Event) → IsSound s p J → transfer id J ≡ None → booked p id J ≡ None
untaken_unbooked s p id J sound none = stranger_unbooked s p p id J sound (λ own. sym (transfer_some id J) ∙ ap (λ (o : Option Transfer). elim o [ None ↦ false | Some x ↦ true ]) none) (own_unforwarded s p id J sound)

untaken_before : (s : HubSettings) (O : Opening) (step : Step) (past : List Step) (p : ℕ) (id : List ℕ) (o : Option Transfer) → transfer id (history s O past p) ≡ o → transfer id (history s O (step ∷ past) p) ≡ None → transfer id (history s O past p) ≡ None
untaken_before s O step past p id None is none = is
untaken_before s O step past p id (Some x) is none =
    let later : transfer id (history s O (step ∷ past) p) ≡ Some x = ap (transfer id) (history_step s O step past p) ∙ transfer_next s (history s O past) (outcome s O past) step p id x is in
    let e : None ≡ Some x = sym none ∙ later in
    absurd cc

pub untaken_undecided : (s : HubSettings) (O : Opening) → IsOpening s O → (L : List Step) (p : ℕ) (id : List ℕ) → transfer id (history s O L p) ≡ None → outcome s O L p id ≡ None
untaken_undecided s O opened [] p id none = untaken_unbooked s p id (beginning O p) (beginning_sound s O opened p) none
untaken_undecided s O opened (step ∷ past) p id none =
    let was = untaken_before s O step past p id (transfer id (history s O past p)) refl none in
    ap (λ (o : Option Outcome). or_else o (wants s (history s O past) step p id)) (untaken_undecided s O opened past p id was)
    ∙ ap (taken_wants s (history s O past) step p id) was
