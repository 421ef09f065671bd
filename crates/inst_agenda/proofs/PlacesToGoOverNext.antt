-- Which places are gone over next.
use Rattle.std.proofs.Common.{◌≡◌, ℕ, ◌<◌, ◌+◌, true, false, Bool, List, [], Some, refl, sym, ap, subst, ◌∙◌, inl, inr, arith, ◌||◌}
use Rattle.std.proofs.lemmas.Bool.Decides.{nat_tests}
use Rattle.std.specs.List.{list_any}
use Rattle.std.proofs.lemmas.Bool.{false≢true, cases_eq, or_cases}
use Rattle.inst_settings.specs.Settings.{participants, is_participant}
use Rattle.inst_command.specs.declared.place.Place.{Place}
use Rattle.inst_command.specs.declared.step.Step.{Step}
use Rattle.inst_model.specs.Opening.{Opening}
use Rattle.inst_model.specs.Hub.{history}
use Rattle.inst_model.specs.Transfer.{Transfer, at_place}
use Rattle.inst_agenda.specs.Agenda.{Agenda, is_same_place, is_entry, is_next}
use Rattle.inst_agenda.specs.Watching.{Watches}
use Rattle.inst_agenda.specs.inner.Agenda.{Notes}
use Rattle.inst_world.specs.HasRun.{World, world_settings, HasRun}
use Rattle.inst_agenda.specs.inner.Watching.{NotesSome}

-- one place more was noted
pub notes_more : (a b c : Agenda) (place : Place) (from : ℕ) → place.owner ≡ from → NotesSome a b from → Notes b c place → NotesSome a c from
notes_more a b c place from own some notes = record {
  waiting_is = notes.waiting_is ∙ some.waiting_is;
  next_still = λ p k it. notes.next_are p k ∙ ap (λ (t : Bool). t || is_same_place place.owner place.index (p, k)) (some.next_still p k it);
  next_from = λ p k it. elim (or_cases (is_next b p k) (is_same_place place.owner place.index (p, k)) (sym (notes.next_are p k) ∙ it)) [
    | inl before ↦ some.next_from p k before
    | inr now ↦ inr (at_owner p k now)
  ];
}
  where
    at_owner : (p k : ℕ) → is_same_place place.owner place.index (p, k) ≡ true → p ≡ from
    at_owner p k now = grind (arith, nat_tests, own, now)

pub notes_none : (a : Agenda) (from : ℕ) → NotesSome a a from
notes_none a from = record { waiting_is = refl; next_still = λ p k it. it; next_from = λ p k it. inl it }

pub noted_here : (a b : Agenda) (place : Place) → Notes a b place → is_next b place.owner place.index ≡ true
noted_here a b place notes = notes.next_are place.owner place.index ∙ or_true (is_next a place.owner place.index) here
  where
    here : is_same_place place.owner place.index (place.owner, place.index) ≡ true
    here = grind (arith, nat_tests)

    or_true : (x : Bool) {y : Bool} → y ≡ true → (x || y) ≡ true
    or_true true is = refl
    or_true false is = is

-- all that are live before this place were noted
abbrev pub NotedBelow : World → Agenda → ℕ → ℕ → Type 0
NotedBelow hub agenda owner index = (O : Opening) (L : List Step) → HasRun O L hub → (k : ℕ) (x : Transfer) →
    k < index → at_place owner (history (world_settings hub) O L owner) k ≡ Some x → is_next agenda owner k ≡ true

abbrev pub NotedAll : World → Agenda → ℕ → Type 0
NotedAll hub agenda owner = (O : Opening) (L : List Step) → HasRun O L hub → (k : ℕ) (x : Transfer) →
    at_place owner (history (world_settings hub) O L owner) k ≡ Some x → is_next agenda owner k ≡ true

-- the transfers of the first participants are gone over next, and nothing waits
pub record NotedOwners (hub : World) (agenda : Agenda) (n : ℕ) : Type 0 where
  pub waiting_is : agenda.waiting ≡ []
  pub named : (p k : ℕ) → is_next agenda p k ≡ true → p < n
  pub noted : (p : ℕ) → p < n → NotedAll hub agenda p

pub noted_owner_more : (hub : World) (a b : Agenda) (owner : ℕ) → NotedOwners hub a owner → NotesSome a b owner → NotedAll hub b owner → NotedOwners hub b (owner + 1)
noted_owner_more hub a b owner before some all = record {
  waiting_is = some.waiting_is ∙ before.waiting_is;
  named = λ p k it. elim (some.next_from p k it) [
    | inl old ↦ omega (arith, before.named p k old)
    | inr now ↦ omega (arith, now)
  ];
  noted = λ p below. elim (cases_eq p owner) [
    | inl same ↦ subst (NotedAll hub b) (sym same) all
    | inr other ↦ λ O L was k x there. some.next_still p k (before.noted p (omega (arith, below, other)) O L was k x there)
  ];
}

-- an agenda on which the transfers of all participants were noted
pub watches_noted : (hub : World) (agenda : Agenda) (n : ℕ) → participants (world_settings hub) ≡ n → NotedOwners hub agenda n → (O : Opening) (L : List Step) → HasRun O L hub → Watches O L hub agenda
watches_noted hub agenda n all noted O L was = record {
  ran = was;
  is_agenda = record {
    next_named = λ p k it. named p (noted.named p k it);
    waiting_named = λ m p k it. absurd (false≢true (ap (list_any (is_entry m p k)) (sym noted.waiting_is) ∙ it));
    rests = λ p k x of there at left. absurd (false≢true (sym left.not_next ∙ noted.noted p (below p of) O L was k x there));
  };
}
  where
    named : (p : ℕ) → p < n → is_participant (world_settings hub) p ≡ true
    named p under = grind (arith, nat_tests, all, under)

    below : (p : ℕ) → is_participant (world_settings hub) p ≡ true → p < n
    below p of = grind (arith, nat_tests, all, of)
