-- A run that goes over the places of its agenda alone has gone over all: whatever it skips, nothing is left to do of.
use Rattle.std.proofs.Common.{◌≡◌, ◌≢◌, ℕ, zero, suc, ◌+◌, ◌-◌, ◌<◌, ◌≤◌, Bool, true, false, ◌||◌, List, [], ◌++◌, length, reverse, Option, Some, None, refl, sym, ap, subst, ◌∙◌, inl, inr, ◌⊎◌, arith, ltb-true}
use Rattle.std.specs.Prelude.{option_map}
use Rattle.std.specs.List.{list_any}
use Rattle.std.proofs.lemmas.Bool.{false≢true, cases_Bool, cases_eq, lt-ltb, or_cases}
use Rattle.std.proofs.lemmas.Bool.Decides.{nat_tests}
use Rattle.inst_base.specs.TimeLimit.{is_due}
use Rattle.inst_settings.specs.Settings.{HubSettings, participants, is_participant}
use Rattle.inst_command.specs.declared.step.Step.{Step}
use Rattle.inst_command.specs.declared.place.Place.{Place}
use Rattle.inst_model.specs.Opening.{Opening, IsOpening}
use Rattle.inst_model.specs.Interleaving.{IsInterleaving}
use Rattle.inst_model.specs.Transfer.{Transfer, live_transfers, at_place, deadline}
use Rattle.inst_model.specs.Hub.{outcome, history}
use Rattle.inst_agenda.specs.Agenda.{Agenda, is_awaited, is_next, is_same_place, is_entry}
use Rattle.inst_agenda.specs.inner.Agenda.{place_comes_before, NothingIsDue, Moves, TakesNext}
use Rattle.inst_agenda.specs.FollowUps.{of_transfer, followed_up}
use Rattle.inst_world.specs.HasRun.{World, world_settings, HasRun}
use Rattle.inst_agenda.specs.Resting.{Rests}
use Rattle.inst_agenda.specs.Watching.{IsLeft, IsAgendaOf, Watches}
use Rattle.inst_agenda.specs.inner.Watching.{GoesOver}
use Rattle.inst_agenda.proofs.StepsAfterLine.{gone_over, gone_on, gone_past, gone_nowhere, gone_over_places, gone_over_originators, originator_more}
use Rattle.inst_agenda.proofs.TransfersAtRest.{rests_runs, live_same_after_follow_up, follow_up_of_another_rests, own_follow_up_rests, follow_up_rests}

-- all transfers before this place have been gone over
abbrev pub reach : HubSettings → Opening → List Step → ℕ → ℕ → ℕ → List Step
reach s O L at o i = gone_over s O (gone_over_originators s O L at o) at o i

-- some hub with these settings has run the steps
record HasRunAs (s : HubSettings) (O : Opening) (M : List Step) : Type 0 where
  opening : IsOpening s O
  steps : IsInterleaving s M

run_as : (s : HubSettings) (O : Opening) (M : List Step) (hub : World) → world_settings hub ≡ s → HasRun O M hub → HasRunAs s O M
run_as s O M hub same ran = record { opening = subst (λ (t : HubSettings). IsOpening t O) same ran.opening; steps = subst (λ (t : HubSettings). IsInterleaving t M) same ran.steps }

-- `Watches`, of a hub with these settings
pub record WatchesAs (s : HubSettings) (O : Opening) (M : List Step) (hub : World) (agenda : Agenda) : Type 0 where
  pub settings_are : world_settings hub ≡ s
  pub ran : HasRun O M hub
  pub is_agenda : IsAgendaOf s O M agenda

pub watches_as : (s : HubSettings) (O : Opening) (M : List Step) (hub : World) (agenda : Agenda) → world_settings hub ≡ s → Watches O M hub agenda → WatchesAs s O M hub agenda
watches_as s O M hub agenda same w = record { settings_are = same; ran = w.ran; is_agenda = subst (λ (t : HubSettings). IsAgendaOf t O M agenda) same w.is_agenda }

pub watches_still : (s : HubSettings) (O : Opening) (M : List Step) (hub : World) (agenda : Agenda) → WatchesAs s O M hub agenda → Watches O M hub agenda
watches_still s O M hub agenda w = record { ran = w.ran; is_agenda = subst (λ (t : HubSettings). IsAgendaOf t O M agenda) (sym w.settings_are) w.is_agenda }

-- another place, or this one
place_cases : (p k o i : ℕ) → ((p ≡ o) × (k ≡ i)) ⊎ ((p ≢ o) ⊎ (k ≢ i))
place_cases p k o i = elim (cases_eq p o) [
  | inr other ↦ inr (inl other)
  | inl owner ↦ elim (cases_eq k i) [
    | inr other ↦ inr (inr other)
    | inl index ↦ inl (owner, index)
  ]
]

-- an agenda after the transfer at a place was gone over
agenda_after : (s : HubSettings) (O : Opening) (M : List Step) (at o i to : ℕ) (a b : Agenda) → HasRunAs s O M → IsAgendaOf s O M a
    → ((p k : ℕ) → is_next b p k ≡ true → is_participant s p ≡ true) → ((m p k : ℕ) → is_awaited b m p k ≡ true → is_participant s p ≡ true)
    → ((t p k : ℕ) → (p ≢ o) ⊎ (k ≢ i) → IsLeft b t p k → IsLeft a t p k)
    → ((x : Transfer) (t : ℕ) → at_place o (history s O M o) i ≡ Some x → IsLeft b t o i → Rests s O (reverse (of_transfer at o i to) ++ M) t o x)
    → IsAgendaOf s O (reverse (of_transfer at o i to) ++ M) b
agenda_after s O M at o i to a b ran agenda next waiting others own = record {
  next_named = next;
  waiting_named = waiting;
  rests = λ p k x participant there t left.
      let before : at_place p (history s O M p) k ≡ Some x = sym (live_same_after_follow_up s O M at o i to p k) ∙ there in
      elim (place_cases p k o i) [
        | inl same ↦
            subst (λ (q : ℕ). Rests s O (reverse (of_transfer at o i to) ++ M) t q x) (sym same.0)
            (own x t (ap (λ (q : ℕ). at_place q (history s O M q) i) (sym same.0) ∙ ap (λ (n : ℕ). at_place p (history s O M p) n) (sym same.1) ∙ before)
            (subst (λ (q : ℕ). IsLeft b t q i) same.0 (subst (λ (n : ℕ). IsLeft b t p n) same.1 left)))
        | inr other ↦ follow_up_of_another_rests s O ran.opening M ran.steps at o i to t p k x before other (agenda.rests p k x participant before t (others t p k other left))
      ];
}

-- a place that is left is skipped
pub skipped : (s : HubSettings) (O : Opening) (L : List Step) (at o i : ℕ) (hub : World) (a : Agenda) → is_participant s o ≡ true → IsLeft a at o i
    → WatchesAs s O (reach s O L at o i) hub a → WatchesAs s O (reach s O L at o (i + 1)) hub a
skipped s O L at o i hub a participant left w = go (at_place o (history s O M o) i) refl
  where
    M : List Step
    M = reach s O L at o i

    go : (X : Option Transfer) → at_place o (history s O M o) i ≡ X → WatchesAs s O (reach s O L at o (i + 1)) hub a
    go None none = subst (λ (N : List Step). WatchesAs s O N hub a) (sym (gone_past s O (gone_over_originators s O L at o) at o i none)) w
    go (Some x) there =
        let now : Rests s O M at o x = w.is_agenda.rests o i x participant there at left in
        let F : List Step = reverse (of_transfer at o i x.to) ++ M in
        let ran : HasRun O F hub = rests_runs O M hub at o i x w.ran (ap (λ (t : HubSettings). at_place o (history t O M o) i) w.settings_are ∙ there)
        (ap (λ (t : HubSettings). is_participant t o) w.settings_are ∙ participant) (subst (λ (t : HubSettings). Rests t O M at o x) (sym w.settings_are) now) in
        let before : HasRunAs s O M = run_as s O M hub w.settings_are w.ran in
        let agenda : IsAgendaOf s O F a = agenda_after s O M at o i x.to a a before w.is_agenda w.is_agenda.next_named w.is_agenda.waiting_named (λ t p k other it. it)
        (λ y t is it.
        let same : x ≡ y = ap (λ (X : Option Transfer). elim X as (λ _. Transfer) [ None ↦ x | Some z ↦ z ]) (sym there ∙ is) in
        subst (λ (z : Transfer). Rests s O F t o z) same (own_follow_up_rests s O before.opening M at o i x there before.steps t now (w.is_agenda.rests o i x participant there t it))) in
        subst (λ (N : List Step). WatchesAs s O N hub a)
        (sym (gone_on s O (gone_over_originators s O L at o) at o i x.to (ap (λ (X : Option Transfer). option_map (λ (y : Transfer). y.to) X) (sym there))))
        (record { settings_are = w.settings_are; ran = ran; is_agenda = agenda })

-- so are some places of an originator
skipped_more : (s : HubSettings) (O : Opening) (L : List Step) (at o i d : ℕ) (hub : World) (a : Agenda) → is_participant s o ≡ true → ((k : ℕ) → i ≤ k → k < i + d → IsLeft a at o k)
    → WatchesAs s O (reach s O L at o i) hub a → WatchesAs s O (reach s O L at o (i + d)) hub a
skipped_more s O L at o i zero hub a participant left w = let same : i ≡ i + 0 = omega arith in subst (λ (n : ℕ). WatchesAs s O (reach s O L at o n) hub a) same w
skipped_more s O L at o i (suc d) hub a participant left w =
    let same : i + d + 1 ≡ i + suc d = omega arith in
    subst (λ (n : ℕ). WatchesAs s O (reach s O L at o n) hub a) same
    (skipped s O L at o (i + d) hub a participant (left (i + d) (omega arith) (omega arith))
    (skipped_more s O L at o i d hub a participant (λ k from below. left k from (omega (arith, below))) w))

-- and all that an originator has left
skipped_rest : (s : HubSettings) (O : Opening) (L : List Step) (at o i : ℕ) (hub : World) (a : Agenda) → is_participant s o ≡ true → ((k : ℕ) → i ≤ k → IsLeft a at o k)
    → WatchesAs s O (reach s O L at o i) hub a → WatchesAs s O (reach s O L at (o + 1) 0) hub a
skipped_rest s O L at o i hub a participant left w =
    let G : List Step = gone_over_originators s O L at o in
    let n : ℕ = length (live_transfers o (history s O G o)) in
    subst (λ (N : List Step). WatchesAs s O N hub a)
    (gone_over_places s O G at o (i + n) (omega arith) ∙ sym (originator_more s O L at o) ∙ sym (gone_nowhere s O (gone_over_originators s O L at (o + 1)) at (o + 1)))
    (skipped_more s O L at o i n hub a participant (λ k from below. left k from) w)

-- and some originators
skipped_originators : (s : HubSettings) (O : Opening) (L : List Step) (at o d : ℕ) (hub : World) (a : Agenda) → o + d ≤ participants s → ((p k : ℕ) → o ≤ p → p < o + d → IsLeft a at p k)
    → WatchesAs s O (reach s O L at o 0) hub a → WatchesAs s O (reach s O L at (o + d) 0) hub a
skipped_originators s O L at o zero hub a within left w = let same : o ≡ o + 0 = omega arith in subst (λ (n : ℕ). WatchesAs s O (reach s O L at n 0) hub a) same w
skipped_originators s O L at o (suc d) hub a within left w =
    let same : o + d + 1 ≡ o + suc d = omega arith in
    subst (λ (n : ℕ). WatchesAs s O (reach s O L at n 0) hub a) same
    (skipped_rest s O L at (o + d) 0 hub a (lt-ltb (o + d) (participants s) (omega (arith, within))) (λ k from. left (o + d) k (omega arith) (omega arith))
    (skipped_originators s O L at o d hub a (omega (arith, within)) (λ p k from below. left p k from (omega (arith, below))) w))

-- How far a run has come that goes over its agenda
-- within: it stands at a participant's place, or hasn't begun
-- ahead: all that is next lies ahead
-- none_due: whatever is due lies behind
pub record IsGoing (s : HubSettings) (O : Opening) (L : List Step) (at : ℕ) (hub : World) (a : Agenda) : Type 0 where
  pub owner : ℕ
  pub index : ℕ
  pub within : (is_participant s owner ≡ true) ⊎ ((owner ≡ 0) × (index ≡ 0))
  pub watches : WatchesAs s O (reach s O L at owner index) hub a
  pub ahead : (p k : ℕ) → is_next a p k ≡ true → place_comes_before (p, k) (owner, index) ≡ false
  pub none_due : (m p k : ℕ) → is_awaited a m p k ≡ true → (place_comes_before (p, k) (owner, index) ≡ true) ⊎ (at < m)

-- it has not begun
pub going_at_first : (s : HubSettings) (O : Opening) (L : List Step) (at : ℕ) (hub : World) (a b : Agenda) → world_settings hub ≡ s → Moves a b → NothingIsDue b at → Watches O L hub a → IsGoing s O L at hub b
going_at_first s O L at hub a b same moves none w =
    let before : WatchesAs s O L hub a = watches_as s O L hub a same w in
    let agenda : IsAgendaOf s O L b = record {
      next_named = λ p k it. elim (moves.next_from p k it) [
        | inl next ↦ before.is_agenda.next_named p k next
        | inr waited ↦ before.is_agenda.waiting_named waited.0 p k waited.1
      ];
      waiting_named = λ m p k it. before.is_agenda.waiting_named m p k (moves.waits_on m p k it);
      rests = λ p k x participant there t left. before.is_agenda.rests p k x participant there t (record {
        not_next = not_true (is_next a p k) (λ it. false≢true (sym left.not_next ∙ moves.next_still p k it));
        not_due = λ m it. elim (moves.waits_still m p k it) [
          | inl still ↦ left.not_due m still
          | inr next ↦ absurd (false≢true (sym left.not_next ∙ next))
        ];
      });
    } in
    record {
      owner = 0;
      index = 0;
      within = inr (refl, refl);
      watches = subst (λ (N : List Step). WatchesAs s O N hub b) (sym (gone_nowhere s O (gone_over_originators s O L at 0) at 0)) (record { settings_are = same; ran = before.ran; is_agenda = agenda });
      ahead = λ p k it. nothing_before p k;
      none_due = λ m p k it. inr (later m (none m p k it));
    }
  where
    not_true : (b : Bool) → (b ≡ true → ⊥) → b ≡ false
    not_true true never = absurd (never refl)
    not_true false never = refl

    nothing_before : (p k : ℕ) → place_comes_before (p, k) (0, 0) ≡ false
    nothing_before p k = grind (arith, nat_tests)

    later : (m : ℕ) → is_due m at ≡ false → at < m
    later m early = grind (arith, nat_tests, early)

-- what lies between where a run stands and the first of the next is left
between : (a b : Agenda) (at o i : ℕ) (place : Place) → TakesNext a b place → ((m p k : ℕ) → is_awaited a m p k ≡ true → (place_comes_before (p, k) (o, i) ≡ true) ⊎ (at < m))
    → (p k : ℕ) → place_comes_before (p, k) (o, i) ≡ false → place_comes_before (p, k) (place.owner, place.index) ≡ true → IsLeft a at p k
between a b at o i place takes none_due p k from below = record {
  not_next = elim (cases_Bool (is_next a p k)) [
    | inr none ↦ none
    | inl next ↦ elim (or_cases (is_same_place p k (place.owner, place.index)) (is_next b p k) (sym (ap (λ (n : List (ℕ × ℕ)). list_any (is_same_place p k) n) takes.first) ∙ next)) [
      | inl here ↦ absurd (at_itself here below)
      | inr later ↦ absurd (both below (takes.after p k later))
    ]
  ];
  not_due = λ m it. elim (none_due m p k it) [
    | inl before ↦ absurd (false≢true (sym from ∙ before))
    | inr early ↦ early
  ];
}
  where
    at_itself : is_same_place p k (place.owner, place.index) ≡ true → place_comes_before (p, k) (place.owner, place.index) ≡ true → ⊥
    at_itself here below = grind (arith, nat_tests, here, below)

    both : place_comes_before (p, k) (place.owner, place.index) ≡ true → place_comes_before (place.owner, place.index) (p, k) ≡ true → ⊥
    both below above = grind (arith, nat_tests, below, above)

first_is_next : (a b : Agenda) (place : Place) → TakesNext a b place → is_next a place.owner place.index ≡ true
first_is_next a b place takes = ap (λ (n : List (ℕ × ℕ)). list_any (is_same_place place.owner place.index) n) takes.first ∙ ap (λ (c : Bool). c || is_next b place.owner place.index) here
  where
    here : is_same_place place.owner place.index (place.owner, place.index) ≡ true
    here = grind (arith, nat_tests)

-- a run skips to the first of the next
skips_to : (s : HubSettings) (O : Opening) (L : List Step) (at : ℕ) (hub : World) (a b : Agenda) (place : Place) → TakesNext a b place → IsGoing s O L at hub a
    → WatchesAs s O (reach s O L at place.owner place.index) hub a
skips_to s O L at hub a b place takes g = elim (cases_eq g.owner place.owner) [
  | inl same ↦
      let from : g.index ≤ place.index = same_owner same not_behind in
      let there : WatchesAs s O (reach s O L at place.owner g.index) hub a = subst (λ (n : ℕ). WatchesAs s O (reach s O L at n g.index) hub a) same g.watches in
      let up : g.index + (place.index - g.index) ≡ place.index = omega (arith, from) in
      subst (λ (n : ℕ). WatchesAs s O (reach s O L at place.owner n) hub a) up
      (skipped_more s O L at place.owner g.index (place.index - g.index) hub a named
      (λ k above below. left place.owner k (on_from k same above) (on_to k (omega (arith, below, from)))) there)
  | inr other ↦
      let less : g.owner < place.owner = other_owner other not_behind in
      let begun : is_participant s g.owner ≡ true = lt-ltb g.owner (participants s) (omega (arith, less, ltb-true place.owner (participants s) named)) in
      let next : WatchesAs s O (reach s O L at (g.owner + 1) 0) hub a = skipped_rest s O L at g.owner g.index hub a begun (λ k above. left g.owner k (own_from k above) (before_owner g.owner k less)) g.watches in
      let up : g.owner + 1 + (place.owner - (g.owner + 1)) ≡ place.owner = omega (arith, less) in
      let few : g.owner + 1 + (place.owner - (g.owner + 1)) ≤ participants s = omega (arith, up, ltb-true place.owner (participants s) named) in
      let there : WatchesAs s O (reach s O L at place.owner 0) hub a = subst (λ (n : ℕ). WatchesAs s O (reach s O L at n 0) hub a) up
      (skipped_originators s O L at (g.owner + 1) (place.owner - (g.owner + 1)) hub a few
      (λ p k above below. left p k (later_from p k (omega (arith, above))) (before_owner p k (omega (arith, below, up)))) next) in
      let all : 0 + place.index ≡ place.index = omega arith in
      subst (λ (n : ℕ). WatchesAs s O (reach s O L at place.owner n) hub a) all
      (skipped_more s O L at place.owner 0 place.index hub a named (λ k above below. left place.owner k (later_from place.owner k less) (on_to k (omega (arith, below)))) there)
]
  where
    named : is_participant s place.owner ≡ true
    named = g.watches.is_agenda.next_named place.owner place.index (first_is_next a b place takes)

    not_behind : place_comes_before (place.owner, place.index) (g.owner, g.index) ≡ false
    not_behind = g.ahead place.owner place.index (first_is_next a b place takes)

    left : (p k : ℕ) → place_comes_before (p, k) (g.owner, g.index) ≡ false → place_comes_before (p, k) (place.owner, place.index) ≡ true → IsLeft a at p k
    left p k from below = between a b at g.owner g.index place takes g.none_due p k from below

    same_owner : g.owner ≡ place.owner → place_comes_before (place.owner, place.index) (g.owner, g.index) ≡ false → g.index ≤ place.index
    same_owner same behind = grind (arith, nat_tests, same, behind)

    other_owner : g.owner ≢ place.owner → place_comes_before (place.owner, place.index) (g.owner, g.index) ≡ false → g.owner < place.owner
    other_owner other behind = grind (arith, nat_tests, other, behind)

    on_from : (k : ℕ) → g.owner ≡ place.owner → g.index ≤ k → place_comes_before (place.owner, k) (g.owner, g.index) ≡ false
    on_from k same above = grind (arith, nat_tests, same, above)

    on_to : (k : ℕ) → k < place.index → place_comes_before (place.owner, k) (place.owner, place.index) ≡ true
    on_to k below = grind (arith, nat_tests, below)

    own_from : (k : ℕ) → g.index ≤ k → place_comes_before (g.owner, k) (g.owner, g.index) ≡ false
    own_from k above = grind (arith, nat_tests, above)

    later_from : (p k : ℕ) → g.owner < p → place_comes_before (p, k) (g.owner, g.index) ≡ false
    later_from p k above = grind (arith, nat_tests, above)

    before_owner : (p k : ℕ) → p < place.owner → place_comes_before (p, k) (place.owner, place.index) ≡ true
    before_owner p k below = grind (arith, nat_tests, below)

-- and behind the last of the next it skips to the end
pub skips_to_the_end : (s : HubSettings) (O : Opening) (L : List Step) (at : ℕ) (hub : World) (a : Agenda) → a.next ≡ [] → IsGoing s O L at hub a → Watches O (followed_up s O L at) hub a
skips_to_the_end s O L at hub a none g =
    subst (λ (N : List Step). Watches O N hub a) (gone_nowhere s O (gone_over_originators s O L at (participants s)) at (participants s))
    (watches_still s O (reach s O L at (participants s) 0) hub a (elim g.within [
      | inl begun ↦
          let within : g.owner < participants s = ltb-true g.owner (participants s) begun in
          let up : g.owner + 1 + (participants s - (g.owner + 1)) ≡ participants s = omega (arith, within) in
          subst (λ (n : ℕ). WatchesAs s O (reach s O L at n 0) hub a) up
          (skipped_originators s O L at (g.owner + 1) (participants s - (g.owner + 1)) hub a (omega (arith, up)) (λ p k above below. left p k (later_from p k (omega (arith, above))))
          (skipped_rest s O L at g.owner g.index hub a begun (λ k above. left g.owner k (own_from k above)) g.watches))
      | inr first ↦
          let start : WatchesAs s O (reach s O L at 0 0) hub a = subst (λ (n : ℕ). WatchesAs s O (reach s O L at 0 n) hub a) first.1 (subst (λ (n : ℕ). WatchesAs s O (reach s O L at n g.index) hub a) first.0 g.watches) in
          let up : 0 + participants s ≡ participants s = omega arith in
          subst (λ (n : ℕ). WatchesAs s O (reach s O L at n 0) hub a) up
          (skipped_originators s O L at 0 (participants s) hub a (omega (arith, up)) (λ p k above below. left p k (at_first p k first.0 first.1)) start)
    ]))
  where
    left : (p k : ℕ) → place_comes_before (p, k) (g.owner, g.index) ≡ false → IsLeft a at p k
    left p k from = record {
      not_next = ap (λ (n : List (ℕ × ℕ)). list_any (is_same_place p k) n) none;
      not_due = λ m it. elim (g.none_due m p k it) [
        | inl before ↦ absurd (false≢true (sym from ∙ before))
        | inr early ↦ early
      ];
    }

    own_from : (k : ℕ) → g.index ≤ k → place_comes_before (g.owner, k) (g.owner, g.index) ≡ false
    own_from k above = grind (arith, nat_tests, above)

    later_from : (p k : ℕ) → g.owner < p → place_comes_before (p, k) (g.owner, g.index) ≡ false
    later_from p k above = grind (arith, nat_tests, above)

    at_first : (p k : ℕ) → g.owner ≡ 0 → g.index ≡ 0 → place_comes_before (p, k) (g.owner, g.index) ≡ false
    at_first p k owner index = grind (arith, nat_tests, owner, index)

-- the first of the next was gone over
pub goes_on : (s : HubSettings) (O : Opening) (L : List Step) (at : ℕ) (hub new : World) (a b c : Agenda) (place : Place) → TakesNext a b place → world_settings new ≡ world_settings hub → c.next ≡ b.next
    → ((M : List Step) → HasRun O M hub → GoesOver O M at place hub new b c) → IsGoing s O L at hub a → IsGoing s O L at new c
goes_on s O L at hub new a b c place takes same next goes g = record {
  owner = place.owner;
  index = place.index + 1;
  within = inl named;
  watches = go (at_place place.owner (history s O M place.owner) place.index) refl;
  ahead = λ p k it. behind p k (takes.after p k (sym (next_same p k) ∙ it));
  none_due = λ m p k it. elim (over.waits_from m p k it) [
    | inr here ↦ inl (just_behind p k here.0 here.1)
    | inl before ↦ elim (g.none_due m p k (sym (waits_same m p k) ∙ before)) [
      | inr early ↦ inr early
      | inl passed ↦ inl (further p k passed not_behind)
    ]
  ];
}
  where
    M : List Step
    M = reach s O L at place.owner place.index

    w : WatchesAs s O M hub a
    w = skips_to s O L at hub a b place takes g

    over : GoesOver O M at place hub new b c
    over = goes M w.ran

    named : is_participant s place.owner ≡ true
    named = g.watches.is_agenda.next_named place.owner place.index (first_is_next a b place takes)

    not_behind : place_comes_before (place.owner, place.index) (g.owner, g.index) ≡ false
    not_behind = g.ahead place.owner place.index (first_is_next a b place takes)

    next_same : (p k : ℕ) → is_next c p k ≡ is_next b p k
    next_same p k = ap (λ (n : List (ℕ × ℕ)). list_any (is_same_place p k) n) next

    waits_same : (m p k : ℕ) → is_awaited b m p k ≡ is_awaited a m p k
    waits_same m p k = ap (λ (n : List (ℕ × (ℕ × ℕ))). list_any (is_entry m p k) n) takes.waiting_is

    behind : (p k : ℕ) → place_comes_before (place.owner, place.index) (p, k) ≡ true → place_comes_before (p, k) (place.owner, place.index + 1) ≡ false
    behind p k later = grind (arith, nat_tests, later)

    just_behind : (p k : ℕ) → p ≡ place.owner → k ≡ place.index → place_comes_before (p, k) (place.owner, place.index + 1) ≡ true
    just_behind p k owner index = grind (arith, nat_tests, owner, index)

    further : (p k : ℕ) → place_comes_before (p, k) (g.owner, g.index) ≡ true → place_comes_before (place.owner, place.index) (g.owner, g.index) ≡ false → place_comes_before (p, k) (place.owner, place.index + 1) ≡ true
    further p k passed ahead = grind (arith, nat_tests, passed, ahead)

    in_a : (p k : ℕ) → is_next b p k ≡ true → is_next a p k ≡ true
    in_a p k it = ap (λ (n : List (ℕ × ℕ)). list_any (is_same_place p k) n) takes.first ∙ ap (λ (x : Bool). is_same_place p k (place.owner, place.index) || x) it ∙ or_right (is_same_place p k (place.owner, place.index))
      where
        or_right : (x : Bool) → (x || true) ≡ true
        or_right true = refl
        or_right false = refl

    next_named : (p k : ℕ) → is_next c p k ≡ true → is_participant s p ≡ true
    next_named p k it = w.is_agenda.next_named p k (in_a p k (sym (next_same p k) ∙ it))

    waiting_named : (m p k : ℕ) → is_awaited c m p k ≡ true → is_participant s p ≡ true
    waiting_named m p k it = elim (over.waits_from m p k it) [
      | inl before ↦ w.is_agenda.waiting_named m p k (sym (waits_same m p k) ∙ before)
      | inr here ↦ ap (is_participant s) here.0 ∙ named
    ]

    others : (t p k : ℕ) → (p ≢ place.owner) ⊎ (k ≢ place.index) → IsLeft c t p k → IsLeft a t p k
    others t p k other left = record {
      not_next = ap (λ (n : List (ℕ × ℕ)). list_any (is_same_place p k) n) takes.first ∙ ap (λ (x : Bool). x || is_next b p k) (elsewhere p k other) ∙ sym (next_same p k) ∙ left.not_next;
      not_due = λ m it. left.not_due m (over.waits_still m p k (waits_same m p k ∙ it));
    }
      where
        elsewhere : (p k : ℕ) → (p ≢ place.owner) ⊎ (k ≢ place.index) → is_same_place p k (place.owner, place.index) ≡ false
        elsewhere p k (inl owner) = grind (arith, nat_tests, owner)
        elsewhere p k (inr index) = grind (arith, nat_tests, index)

    go : (X : Option Transfer) → at_place place.owner (history s O M place.owner) place.index ≡ X → WatchesAs s O (reach s O L at place.owner (place.index + 1)) new c
    go None none =
        subst (λ (N : List Step). WatchesAs s O N new c) (sym (gone_past s O (gone_over_originators s O L at place.owner) at place.owner place.index none))
        (record {
          settings_are = same ∙ w.settings_are;
          ran = over.none (ap (λ (t : HubSettings). at_place place.owner (history t O M place.owner) place.index) w.settings_are ∙ none);
          is_agenda = record {
            next_named = next_named;
            waiting_named = waiting_named;
            rests = λ p k x participant there t left. elim (place_cases p k place.owner place.index) [
              | inr other ↦ w.is_agenda.rests p k x participant there t (others t p k other left)
              | inl here ↦
                  let clash : Some x ≡ None = sym there ∙ ap (λ (q : ℕ). at_place q (history s O M q) k) here.0 ∙ ap (λ (n : ℕ). at_place place.owner (history s O M place.owner) n) here.1 ∙ none in
                  let no : ⊥ = cc in
                  absurd no
            ];
          };
        })
    go (Some x) there =
        let there' : at_place place.owner (history (world_settings hub) O M place.owner) place.index ≡ Some x = ap (λ (t : HubSettings). at_place place.owner (history t O M place.owner) place.index) w.settings_are ∙ there in
        let F : List Step = reverse (of_transfer at place.owner place.index x.to) ++ M in
        let before : HasRunAs s O M = run_as s O M hub w.settings_are w.ran in
        let agenda : IsAgendaOf s O F c = agenda_after s O M at place.owner place.index x.to a c before w.is_agenda next_named waiting_named others
        (λ y t is left.
        let one : x ≡ y = ap (λ (X : Option Transfer). elim X as (λ _. Transfer) [ None ↦ x | Some z ↦ z ]) (sym there ∙ is) in
        subst (λ (z : Transfer). Rests s O F t place.owner z) one
        (follow_up_rests s O before.opening M at place.owner place.index x there t
        (λ pending. subst (λ (q : HubSettings). t < deadline q x) w.settings_are
        (left.not_due (deadline (world_settings hub) x) (over.waits_for x there' (ap (λ (q : HubSettings). outcome q O F place.owner x.id) w.settings_are ∙ pending)))))) in
        subst (λ (N : List Step). WatchesAs s O N new c)
        (sym (gone_on s O (gone_over_originators s O L at place.owner) at place.owner place.index x.to (ap (λ (X : Option Transfer). option_map (λ (y : Transfer). y.to) X) (sym there))))
        (record { settings_are = same ∙ w.settings_are; ran = over.some x there'; is_agenda = agenda })
