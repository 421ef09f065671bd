-- Steps of which their participant sees nothing add nothing: all histories and outcomes stay.
use Rattle.std.proofs.Common.{◌≡◌, ◌≢◌, ℕ, Bool, true, false, ◌&&◌, ◌||◌, ◌==◌, not, is_none, List, [], ◌∷◌, Option, Some, None, refl, sym, ap, subst, ◌∙◌, inl, inr, ◌⊎◌, IfSome}
use Rattle.std.proofs.lemmas.Bool.{cases_eq, cases_Bool, or_cases, and_from, cond-true, cond-false, eqb-true, ne_eqb}
use Rattle.std.proofs.lemmas.Option.{same_Some}
use Rattle.inst_settings.specs.Settings.{HubSettings, is_participant}
use Rattle.inst_command.specs.Step.{step_fits}
use Rattle.inst_command.specs.declared.outcome.Outcome.{Outcome}
use Rattle.inst_command.specs.declared.step.Step.{Step}
use Rattle.inst_command.specs.declared.step.Step.TheVariants.{Deliver, Learn}
use Rattle.inst_journal.specs.declared.event.Event.{Event}
use Rattle.inst_journal.specs.Booked.{is_forwarded, booked}
use Rattle.inst_model.specs.Opening.{Opening}
use Rattle.inst_model.specs.Transfer.{Transfer, live_transfers, at_place, deadline, transfer}
use Rattle.inst_model.specs.View.{news, comes, tells, sees}
use Rattle.inst_model.specs.View.Seen.{Came}
use Rattle.inst_model.specs.Hub.{decided, outcome, history}
use Rattle.inst_model.proofs.AllHistoriesTogether.{together}
use Rattle.inst_model.proofs.StepsThatOnlyTell.{same_outcome}
use Rattle.inst_model.proofs.Transfers.{place_found}
use Rattle.inst_world.specs.HasRun.{World, world_settings, HasRun}
use Rattle.inst_world.proofs.BoardOutcomesAfterStep.{board_stays}
use Rattle.inst_world.proofs.PlacesOfLiveTransfers.{actor, others_stay, sees_this, if_own}

-- nothing is told to a party that has booked what there is
no_news : (p : ℕ) (id : List ℕ) (o known : Option Outcome) → ((z : Outcome) → o ≡ Some z → known ≡ Some z) → news p id o known ≡ []
no_news p id None known told = refl
no_news p id (Some z) known told = ap (news p id (Some z)) (told z refl)

pub tells_nothing : (outcomes : ℕ → List ℕ → Option Outcome) (p who : ℕ) (J : List Event) (x : Transfer)
    → ((z : Outcome) → outcomes p x.id ≡ Some z → (who ≡ p) ⊎ (is_forwarded p x.id J ≡ true) → booked p x.id J ≡ Some z) → tells outcomes p who J (Some x) ≡ []
tells_nothing outcomes p who J x told = elim (cases_Bool ((who == p) || is_forwarded p x.id J)) [
  | inr stranger ↦ cond-false ((who == p) || is_forwarded p x.id J) (news p x.id (outcomes p x.id) (booked p x.id J)) [] stranger
  | inl party ↦
      cond-true ((who == p) || is_forwarded p x.id J) (news p x.id (outcomes p x.id) (booked p x.id J)) [] party
      ∙ no_news p x.id (outcomes p x.id) (booked p x.id J) (λ z is. told z is (party_of (or_cases (who == p) (is_forwarded p x.id J) party)))
]
  where
    party_of : ((who == p) ≡ true) ⊎ (is_forwarded p x.id J ≡ true) → (who ≡ p) ⊎ (is_forwarded p x.id J ≡ true)
    party_of (inl own) = inl (eqb-true who p own)
    party_of (inr came) = inr came

-- a step of which its actor sees nothing leaves all histories
pub unseen_same : (s : HubSettings) (O : Opening) (step : Step) (L : List Step) → sees s (history s O L) (outcome s O L) (decided s (history s O L) (outcome s O L) step) step (actor step) ≡ []
    → (q : ℕ) → history s O (step ∷ L) q ≡ history s O L q
unseen_same s O step L nothing q = elim (cases_eq q (actor step)) [
  | inr other ↦ others_stay s O step L q other
  | inl same ↦
      (sees_this s O step L q []
      (subst (λ (w : ℕ). sees s (history s O L) (outcome s O L) (decided s (history s O L) (outcome s O L) step) step w ≡ []) (sym same) nothing)).history_is
]

-- a step that leaves all histories and outcomes leaves a hub that has run
pub idle_runs : (O : Opening) (step : Step) (L : List Step) (hub : World) → step_fits (world_settings hub) step ≡ true
    → ((q : ℕ) → history (world_settings hub) O (step ∷ L) q ≡ history (world_settings hub) O L q)
    → ((q : ℕ) (id : List ℕ) → outcome (world_settings hub) O (step ∷ L) q id ≡ outcome (world_settings hub) O L q id)
    → HasRun O L hub → HasRun O (step ∷ L) hub
idle_runs O step L hub fits histories outcomes run = record {
  opening = run.opening;
  steps = (fits, run.steps);
  histories = λ q book is. run.histories q book is ∙ sym (histories q);
  board = board_stays (world_settings hub) O run.opening L run.steps step hub.board hub.board run.board
      (λ q. ap (live_transfers q) (histories q)) (λ j a. (λ h. h, λ h. h)) (λ q n y is. outcomes q y.id);
}

-- what is addressed to another doesn't come, and its outcome isn't told
abbrev pub IsNoSide : ℕ → ℕ → Option Transfer → Type 0
IsNoSide who from X = IfSome X (λ x. (who ≢ from) × (x.to ≢ who))

comes_to_another : (s : HubSettings) (outcomes : ℕ → List ℕ → Option Outcome) (from who : ℕ) (J : List Event) (X : Option Transfer) → IsNoSide who from X → comes s outcomes from who J X ≡ []
comes_to_another s outcomes from who J None side = refl
comes_to_another s outcomes from who J (Some x) side =
    cond-false _ (Came from x.id x.cents (deadline s x) ∷ []) []
    (ap (λ (b : Bool). (b && is_none (outcomes from x.id)) && not (is_forwarded from x.id J)) (ne_eqb x.to who side.1))

module _ (hub : World) (O : Opening) (L : List Step) (run : HasRun O L hub) (who from index : ℕ) where
  -- what was forwarded to `who` is addressed to it
  unforwarded : (x : Transfer) → at_place from (history (world_settings hub) O L from) index ≡ Some x → x.to ≢ who → is_forwarded from x.id (history (world_settings hub) O L who) ≡ false
  unforwarded x there another = elim (cases_Bool (is_forwarded from x.id (history (world_settings hub) O L who))) [
    | inr no' ↦ no'
    | inl came ↦
        let s : HubSettings = world_settings hub in
        let all = together s O run.opening L run.steps in
        let taken = all.taken who from x.id came in
        let same : x ≡ taken.0 = same_Some x taken.0 (sym (place_found s from (history s O L from) index x (all.sound from) there) ∙ taken.1) in
        absurd (another (ap (λ (y : Transfer). y.to) same ∙ taken.2))
  ]

  told_to_another : (X : Option Transfer) → at_place from (history (world_settings hub) O L from) index ≡ X → IsNoSide who from X
      → tells (outcome (world_settings hub) O L) from who (history (world_settings hub) O L who) X ≡ []
  told_to_another None there side = refl
  told_to_another (Some x) there side =
      let J : List Event = history (world_settings hub) O L who in
      cond-false ((who == from) || is_forwarded from x.id J) (news from x.id (outcome (world_settings hub) O L from x.id) (booked from x.id J)) []
      (ap (λ (b : Bool). b || is_forwarded from x.id J) (ne_eqb who from side.0) ∙ unforwarded x there side.1)

  learning_idle : IsNoSide who from (at_place from (history (world_settings hub) O L from) index) → (q : ℕ) → history (world_settings hub) O (Learn who from index ∷ L) q ≡ history (world_settings hub) O L q
  learning_idle side = unseen_same (world_settings hub) O (Learn who from index) L
      (if_own who (tells (outcome (world_settings hub) O L) from who (history (world_settings hub) O L who) (at_place from (history (world_settings hub) O L from) index))
      ∙ told_to_another (at_place from (history (world_settings hub) O L from) index) refl side)

  delivery_to_another_idle : IsNoSide who from (at_place from (history (world_settings hub) O L from) index) → (q : ℕ) → history (world_settings hub) O (Deliver from index who ∷ L) q ≡ history (world_settings hub) O L q
  delivery_to_another_idle side = unseen_same (world_settings hub) O (Deliver from index who) L
      (if_own who (comes (world_settings hub) (outcome (world_settings hub) O L) from who (history (world_settings hub) O L who) (at_place from (history (world_settings hub) O L from) index))
      ∙ comes_to_another (world_settings hub) (outcome (world_settings hub) O L) from who (history (world_settings hub) O L who) (at_place from (history (world_settings hub) O L from) index) side)

-- learning and delivering to a participant that is no side of the transfer at the place add nothing
pub no_side_runs : (hub : World) (O : Opening) (L : List Step) → HasRun O L hub → (who from index : ℕ) → is_participant (world_settings hub) who ≡ true → is_participant (world_settings hub) from ≡ true
    → IsNoSide who from (at_place from (history (world_settings hub) O L from) index) → HasRun O (Deliver from index who ∷ (Learn who from index ∷ L)) hub
no_side_runs hub O L run who from index one other side =
    let s : HubSettings = world_settings hub in
    let M : List Step = Learn who from index ∷ L in
    let same = learning_idle hub O L run who from index side in
    let learnt : HasRun O M hub = idle_runs O (Learn who from index) L hub (and_from (is_participant s who) (is_participant s from) one other) same (same_outcome s O (Learn who from index) L refl) run in
    let still : IsNoSide who from (at_place from (history s O M from) index) = subst (λ (J : List Event). IsNoSide who from (at_place from J index)) (sym (same from)) side in
    idle_runs O (Deliver from index who) M hub (and_from (is_participant s from) (is_participant s who) other one) (delivery_to_another_idle hub O M learnt who from index still)
    (same_outcome s O (Deliver from index who) M refl) learnt
