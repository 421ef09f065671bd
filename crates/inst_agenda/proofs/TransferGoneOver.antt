-- The transfer at a place was gone over.
use Rattle.std.proofs.Common.{◌≡◌, ℕ, Bool, true, false, ◌||◌, List, ◌++◌, reverse, Option, Some, None, refl, sym, ap, subst, ◌∙◌, inl, inr, ◌⊎◌, arith}
use Rattle.std.specs.Prelude.{option_map}
use Rattle.std.proofs.lemmas.Bool.{or_cases}
use Rattle.std.proofs.lemmas.Option.{same_Some}
use Rattle.std.proofs.lemmas.Bool.Decides.{nat_tests}
use Rattle.inst_settings.specs.Settings.{HubSettings}
use Rattle.inst_command.specs.declared.step.Step.{Step}
use Rattle.inst_command.specs.declared.place.Place.{Place}
use Rattle.inst_model.specs.Opening.{Opening}
use Rattle.inst_model.specs.Transfer.{Transfer, at_place, deadline}
use Rattle.inst_model.specs.Hub.{outcome, history}
use Rattle.inst_agenda.specs.Agenda.{Agenda, is_awaited, is_entry}
use Rattle.inst_agenda.specs.inner.Agenda.{Waits}
use Rattle.inst_agenda.specs.FollowUps.{of_transfer}
use Rattle.inst_world.specs.HasRun.{World, world_settings, HasRun}
use Rattle.inst_agenda.specs.inner.Watching.{GoesOver}
use Rattle.inst_agenda.proofs.TransfersAtRest.{live_same_after_follow_up}

pub addressed : (X : Option Transfer) (x : Transfer) (to : ℕ) → Some to ≡ option_map (λ (y : Transfer). y.to) X → X ≡ Some x → to ≡ x.to
addressed X x to found is = ap (λ (o : Option ℕ). elim o as (λ _. ℕ) [ None ↦ to | Some n ↦ n ]) (found ∙ ap (λ (Y : Option Transfer). option_map (λ (y : Transfer). y.to) Y) is)

or_true : (x : Bool) {y : Bool} → y ≡ true → (x || y) ≡ true
or_true true is = refl
or_true false is = is

-- once it waits for this deadline it is awaited then, and nothing else is more
module _ (a b : Agenda) (d : ℕ) (place : Place) (w : Waits a b d place) where
  waits_here : (m : ℕ) → d ≡ m → is_awaited b m place.owner place.index ≡ true
  waits_here m is = w.waiting_are m place.owner place.index ∙ or_true (is_awaited a m place.owner place.index) here
    where
      here : is_entry d place.owner place.index (m, (place.owner, place.index)) ≡ true
      here = grind (arith, nat_tests, is)

  still_waits : (m p k : ℕ) → is_awaited a m p k ≡ true → is_awaited b m p k ≡ true
  still_waits m p k it = w.waiting_are m p k ∙ ap (λ (c : Bool). c || is_entry d place.owner place.index (m, (p, k))) it

  owner_is : (m p k : ℕ) → is_entry d place.owner place.index (m, (p, k)) ≡ true → p ≡ place.owner
  owner_is m p k now = grind (arith, nat_tests, now)

  index_is : (m p k : ℕ) → is_entry d place.owner place.index (m, (p, k)) ≡ true → k ≡ place.index
  index_is m p k now = grind (arith, nat_tests, now)

  waits_from : (m p k : ℕ) → is_awaited b m p k ≡ true → (is_awaited a m p k ≡ true) ⊎ ((p ≡ place.owner) × (k ≡ place.index))
  waits_from m p k it = elim (or_cases (is_awaited a m p k) (is_entry d place.owner place.index (m, (p, k))) (sym (w.waiting_are m p k) ∙ it)) [
    | inl before ↦ inl before
    | inr now ↦ inr (owner_is m p k now, index_is m p k now)
  ]

-- its steps were run, and where it is pending it waits
goes : (O : Opening) (L : List Step) (at : ℕ) (place : Place) (hub middle new : World) (a b : Agenda) (to : ℕ) → world_settings middle ≡ world_settings hub → new ≡ middle
    → Some to ≡ option_map (λ (x : Transfer). x.to) (at_place place.owner (history (world_settings hub) O L place.owner) place.index)
    → HasRun O (reverse (of_transfer at place.owner place.index to) ++ L) middle
    → ((M : List Step) → HasRun O M middle → (x : Transfer) → at_place place.owner (history (world_settings hub) O M place.owner) place.index ≡ Some x
    → outcome (world_settings hub) O M place.owner x.id ≡ None → is_awaited b (deadline (world_settings hub) x) place.owner place.index ≡ true)
    → ((m p k : ℕ) → is_awaited a m p k ≡ true → is_awaited b m p k ≡ true)
    → ((m p k : ℕ) → is_awaited b m p k ≡ true → (is_awaited a m p k ≡ true) ⊎ ((p ≡ place.owner) × (k ≡ place.index)))
    → GoesOver O L at place hub new a b
goes O L at place hub middle new a b to settings same found ran pending still from =
    let s : HubSettings = world_settings hub in
    let F : ℕ → List Step = λ n. reverse (of_transfer at place.owner place.index n) ++ L in
    let ran_to : (x : Transfer) → at_place place.owner (history s O L place.owner) place.index ≡ Some x → HasRun O (F x.to) middle =
    λ x there. subst (λ (n : ℕ). HasRun O (F n) middle) (addressed (at_place place.owner (history s O L place.owner) place.index) x to found there) ran in
    record {
      none = λ none. let clash : Some to ≡ None = found ∙ ap (λ (Y : Option Transfer). option_map (λ (y : Transfer). y.to) Y) none in let no : ⊥ = cc in absurd no;
      some = λ x there. subst (λ (h : World). HasRun O (F x.to) h) (sym same) (ran_to x there);
      waits_for = λ x there none. pending (F x.to) (ran_to x there) x (live_same_after_follow_up s O L at place.owner place.index x.to place.owner place.index ∙ there) none;
      waits_still = still;
      waits_from = from;
    }

-- it waits for its deadline
pub goes_waiting : (O : Opening) (L : List Step) (at : ℕ) (place : Place) (hub middle new : World) (a b : Agenda) (to d : ℕ) → world_settings middle ≡ world_settings hub → new ≡ middle
    → Some to ≡ option_map (λ (x : Transfer). x.to) (at_place place.owner (history (world_settings hub) O L place.owner) place.index)
    → HasRun O (reverse (of_transfer at place.owner place.index to) ++ L) middle
    → ((M : List Step) → HasRun O M middle → (x : Transfer) → at_place place.owner (history (world_settings middle) O M place.owner) place.index ≡ Some x
    → outcome (world_settings middle) O M place.owner x.id ≡ None → Some d ≡ Some (deadline (world_settings middle) x))
    → Waits a b d place → GoesOver O L at place hub new a b
goes_waiting O L at place hub middle new a b to d settings same found ran until w =
    goes O L at place hub middle new a b to settings same found ran
    (λ M was x there none.
    let same_deadline : d ≡ deadline (world_settings hub) x = ap (λ (o : Option ℕ). elim o as (λ _. ℕ) [ None ↦ d | Some n ↦ n ]) (subst (λ (s : HubSettings). at_place place.owner (history s O M place.owner) place.index ≡ Some x
    → outcome s O M place.owner x.id ≡ None → Some d ≡ Some (deadline s x)) settings (λ it undecided. until M was x it undecided) there none) in
    waits_here a b d place w (deadline (world_settings hub) x) same_deadline)
    (still_waits a b d place w) (waits_from a b d place w)

-- it is pending, and isn't due
pub goes_on_waiting : (O : Opening) (L : List Step) (at : ℕ) (place : Place) (hub new : World) (a b : Agenda) (x : Transfer) (d : ℕ)
    → at_place place.owner (history (world_settings hub) O L place.owner) place.index ≡ Some x → d ≡ deadline (world_settings hub) x
    → HasRun O (reverse (of_transfer at place.owner place.index x.to) ++ L) new → Waits a b d place → GoesOver O L at place hub new a b
goes_on_waiting O L at place hub new a b x d there due ran w =
    let s : HubSettings = world_settings hub in
    let is : (y : Transfer) → at_place place.owner (history s O L place.owner) place.index ≡ Some y → x ≡ y = λ y here. same_Some x y (sym there ∙ here) in
    record {
      none = λ none. let clash : Some x ≡ None = sym there ∙ none in let no : ⊥ = cc in absurd no;
      some = λ y here. subst (λ (z : Transfer). HasRun O (reverse (of_transfer at place.owner place.index z.to) ++ L) new) (is y here) ran;
      waits_for = λ y here none. waits_here a b d place w (deadline s y) (due ∙ ap (deadline s) (is y here));
      waits_still = still_waits a b d place w;
      waits_from = waits_from a b d place w;
    }

-- it isn't pending any more
pub goes_decided : (O : Opening) (L : List Step) (at : ℕ) (place : Place) (hub middle new : World) (a : Agenda) (to : ℕ) → world_settings middle ≡ world_settings hub → new ≡ middle
    → Some to ≡ option_map (λ (x : Transfer). x.to) (at_place place.owner (history (world_settings hub) O L place.owner) place.index)
    → HasRun O (reverse (of_transfer at place.owner place.index to) ++ L) middle
    → ((M : List Step) → HasRun O M middle → (x : Transfer) → at_place place.owner (history (world_settings middle) O M place.owner) place.index ≡ Some x
    → outcome (world_settings middle) O M place.owner x.id ≡ None → None ≡ Some (deadline (world_settings middle) x))
    → GoesOver O L at place hub new a a
goes_decided O L at place hub middle new a to settings same found ran until =
    goes O L at place hub middle new a a to settings same found ran
    (λ M was x there none.
    let clash : None ≡ Some (deadline (world_settings hub) x) = subst (λ (s : HubSettings). at_place place.owner (history s O M place.owner) place.index ≡ Some x
    → outcome s O M place.owner x.id ≡ None → None ≡ Some (deadline s x)) settings (λ it undecided. until M was x it undecided) there none in
    let no : ⊥ = cc in
    absurd no)
    (λ m p k it. it) (λ m p k it. inl it)
