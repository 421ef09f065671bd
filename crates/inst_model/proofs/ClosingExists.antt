-- There is a closing: each participant is told of each place.
use Rattle.std.proofs.Common.{◌≡◌, ℕ, zero, suc, ◌<◌, ◌≤◌, true, List, [], ◌∷◌, ◌++◌, refl, sym, subst, inl, inr, ◌⊎◌, arith, Contains}
use Rattle.std.proofs.lemmas.Bool.{cases_eq, and_from, lt-ltb}
use Rattle.std.proofs.lemmas.List.Elements.{Contains-append_left, Contains-append_right, Contains-push}
use Rattle.inst_settings.specs.Settings.{HubSettings, participants, is_participant}
use Rattle.inst_command.specs.Step.{step_fits}
use Rattle.inst_command.specs.declared.step.Step.{Step}
use Rattle.inst_command.specs.declared.step.Step.TheVariants.{Deliver, Learn}
use Rattle.inst_model.specs.Closing.{is_telling, of_places, of_originators, of_participants, closing, ThereIsAClosing}
use Rattle.inst_model.proofs.TextsTestsAndFirstThings.{Each}
use Rattle.inst_model.proofs.EveryoneIsToldAfterClosing.{each_append}

-- a step that tells, and fits
record Tells (s : HubSettings) (step : Step) : Type 0 where
  fits : step_fits s step ≡ true
  tells : is_telling step ≡ true

below : (s : HubSettings) (n : ℕ) → n < participants s → is_participant s n ≡ true
below s n le = lt-ltb n (participants s) le

places_tell : (s : HubSettings) (who from n : ℕ) → who < participants s → from < participants s → Each (Tells s) (of_places who from n)
places_tell s who from zero w f = tt
places_tell s who from (suc n) w f = (
  record { fits = and_from (is_participant s from) (is_participant s who) (below s from f) (below s who w); tells = refl },
  (
    record { fits = and_from (is_participant s who) (is_participant s from) (below s who w) (below s from f); tells = refl },
    places_tell s who from n w f,
  ),
)

originators_tell : (s : HubSettings) (who places n : ℕ) → who < participants s → n ≤ participants s → Each (Tells s) (of_originators who places n)
originators_tell s who places zero w le = tt
originators_tell s who places (suc n) w le =
    each_append (Tells s) (of_places who n places) (of_originators who places n) (places_tell s who n places w (omega arith)) (originators_tell s who places n w (omega arith))

participants_tell : (s : HubSettings) (originators places n : ℕ) → originators ≤ participants s → n ≤ participants s → Each (Tells s) (of_participants originators places n)
participants_tell s originators places zero o le = tt
participants_tell s originators places (suc n) o le =
    each_append (Tells s) (of_originators n places originators) (of_participants originators places n) (originators_tell s n places originators (omega arith) o) (participants_tell s originators places n o (omega arith))

-- both steps of a place are there
abbrev BothThere : List Step → ℕ → ℕ → ℕ → Type 0
BothThere M who from index = Contains M (Deliver from index who) × Contains M (Learn who from index)

in_front : (M N : List Step) (who from index : ℕ) → BothThere M who from index → BothThere (M ++ N) who from index
in_front M N who from index both = (Contains-append_left M N (Deliver from index who) both.0, Contains-append_left M N (Learn who from index) both.1)

behind : (M N : List Step) (who from index : ℕ) → BothThere N who from index → BothThere (M ++ N) who from index
behind M N who from index both = (Contains-append_right M N (Deliver from index who) both.0, Contains-append_right M N (Learn who from index) both.1)

of_pair : (who from index : ℕ) → BothThere (Deliver from index who ∷ (Learn who from index ∷ [])) who from index
of_pair who from index = (
  Contains-append_left (Deliver from index who ∷ []) (Learn who from index ∷ []) (Deliver from index who) (Contains-push [] (Deliver from index who)),
  Contains-push (Deliver from index who ∷ []) (Learn who from index),
)

lower : (index n : ℕ) → index < suc n → (index ≡ n) ⊎ (index < n)
lower index n less = elim (cases_eq index n) [ inl same ↦ inl same | inr other ↦ inr (omega arith) ]

in_places : (who from n index : ℕ) → index < n → BothThere (of_places who from n) who from index
in_places who from zero index less = absurd (omega arith)
in_places who from (suc n) index less = elim (lower index n less) [
  | inl same ↦
      subst (λ k. BothThere (of_places who from (suc n)) who from k) (sym same)
      (in_front (Deliver from n who ∷ (Learn who from n ∷ [])) (of_places who from n) who from n (of_pair who from n))
  | inr rest ↦ behind (Deliver from n who ∷ (Learn who from n ∷ [])) (of_places who from n) who from index (in_places who from n index rest)
]

in_originators : (who places n from index : ℕ) → from < n → index < places → BothThere (of_originators who places n) who from index
in_originators who places zero from index less k = absurd (omega arith)
in_originators who places (suc n) from index less k = elim (lower from n less) [
  | inl same ↦
      subst (λ o. BothThere (of_originators who places (suc n)) who o index) (sym same)
      (in_front (of_places who n places) (of_originators who places n) who n index (in_places who n places index k))
  | inr rest ↦ behind (of_places who n places) (of_originators who places n) who from index (in_originators who places n from index rest k)
]

in_participants : (originators places n who from index : ℕ) → who < n → from < originators → index < places → BothThere (of_participants originators places n) who from index
in_participants originators places zero who from index less f k = absurd (omega arith)
in_participants originators places (suc n) who from index less f k = elim (lower who n less) [
  | inl same ↦
      subst (λ w. BothThere (of_participants originators places (suc n)) w from index) (sym same)
      (in_front (of_originators n places originators) (of_participants originators places n) n from index (in_originators n places originators from index f k))
  | inr rest ↦ behind (of_originators n places originators) (of_participants originators places n) who from index (in_participants originators places n who from index rest f k)
]

each_part : (s : HubSettings) (P : Step → Type 0) (M : List Step) → ((step : Step) → Tells s step → P step) → Each (Tells s) M → Each P M
each_part s P [] part each = tt
each_part s P (step ∷ M) part each = (part step each.0, each_part s P M part each.1)

pub there_is_a_closing : ThereIsAClosing
there_is_a_closing s =
    let n : ℕ = participants s in
    let all : Each (Tells s) (closing s) = participants_tell s n s.places n (omega arith) (omega arith) in
    record {
      fits = each_part s (λ step. step_fits s step ≡ true) (closing s) (λ step t. t.fits) all;
      only_tells = each_part s (λ step. is_telling step ≡ true) (closing s) (λ step t. t.tells) all;
      delivers = λ who from index w f k. (in_participants n s.places n who from index w f k).0;
      learns = λ who from index w f k. (in_participants n s.places n who from index w f k).1;
    }
