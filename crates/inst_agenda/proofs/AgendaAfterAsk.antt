-- After an ask whatever it names is on the agenda, and of what it doesn't name there is no more to do than before.
use Rattle.std.proofs.Common.{◌≡◌, ◌≢◌, ℕ, ◌≤◌, true, List, ◌∷◌, length, Option, Some, None, refl, sym, ap, subst, ◌∙◌, inl, inr}
use Rattle.std.specs.List.{list_any}
use Rattle.std.proofs.lemmas.Bool.{false≢true, cases_Bool}
use Rattle.inst_settings.specs.Settings.{HubSettings, is_participant}
use Rattle.inst_command.specs.declared.ask.Ask.{Ask as AskValue}
use Rattle.inst_command.specs.declared.reply.Answer.{Answer}
use Rattle.inst_command.specs.declared.step.Step.{Step}
use Rattle.inst_command.specs.declared.step.Step.TheVariants.{Ask}
use Rattle.inst_journal.specs.declared.event.Event.{Event}
use Rattle.inst_model.specs.Opening.{Opening}
use Rattle.inst_model.specs.Hub.{history}
use Rattle.inst_model.specs.Trace.{answer}
use Rattle.inst_model.specs.Transfer.{Transfer, at_place}
use Rattle.inst_agenda.specs.Agenda.{Agenda, is_entry, is_awaited, is_next}
use Rattle.inst_agenda.specs.inner.Agenda.{Notes}
use Rattle.inst_world.specs.HasRun.{World, world_settings, HasRun, Runs}
use Rattle.inst_agenda.specs.inner.Naming.{named_by}
use Rattle.inst_agenda.specs.Watching.{IsLeft, IsAgendaOf, Watches}
use Rattle.inst_agenda.specs.inner.Watching.{NotesSome, NotesNamed}
use Rattle.inst_command.specs.declared.place.Place.{Place}
use Rattle.inst_slot.specs.Book.{place_at}
use Rattle.inst_agenda.proofs.PlacesToGoOverNext.{notes_more, notes_none, noted_here}
use Rattle.inst_agenda.proofs.UnkeptAskDecidesNothing.{no_longer_is_same, all_stay, quiet_outcome}
use Rattle.inst_agenda.proofs.TransfersAtRest.{rests_stays, unnamed_rests, unnamed_stood}

-- the place where a transfer with this name lies was noted
pub named_some : (hub : World) (named : Option (ℕ × List ℕ)) (a b : Agenda) (place : Place) → is_participant (world_settings hub) place.owner ≡ true → Notes a b place
    → ((O : Opening) (L : List Step) → HasRun O L hub → (p k : ℕ) (x : Transfer) → at_place p (history (world_settings hub) O L p) k ≡ Some x → named ≡ Some (p, x.id) → Some place ≡ Some (place_at p k))
    → NotesNamed hub named a b
named_some hub named a b place participant notes lies =
    let some : NotesSome a b place.owner = notes_more a a b place place.owner refl (notes_none a place.owner) notes in
    record {
      waiting_is = some.waiting_is;
      next_still = some.next_still;
      next_from = λ p k it. elim (some.next_from p k it) [
        | inl before ↦ inl before
        | inr now ↦ inr (ap (is_participant (world_settings hub)) now ∙ participant)
      ];
      noted = λ O L was p k x there is.
          let same : place ≡ place_at p k = ap (λ (o : Option Place). elim o as (λ _. Place) [ None ↦ place | Some q ↦ q ]) (lies O L was p k x there is) in
          ap (λ (q : Place). is_next b q.owner q.index) (sym same) ∙ noted_here a b place notes;
    }

pub watches_ask : (hub middle : World) (a b : Agenda) (ask : AskValue) (told : Answer) → Runs hub (Ask ask) told middle → world_settings middle ≡ world_settings hub
    → NotesNamed middle (named_by ask.who ask.command) a b → (O : Opening) (L : List Step) → Watches O L hub a
    → (told ≡ answer (world_settings hub) O L (Ask ask)) × Watches O (Ask ask ∷ L) middle b
watches_ask hub middle a b ask told runs same notes O L watches =
    let ran = runs O L watches.ran in
    (ran.0, record { ran = ran.1; is_agenda = subst (λ (s : HubSettings). IsAgendaOf s O (Ask ask ∷ L) b) (sym same) agenda })
  where
    s : HubSettings
    s = world_settings hub

    waits_same : (m p k : ℕ) → is_awaited b m p k ≡ is_awaited a m p k
    waits_same m p k = ap (λ (w : List (ℕ × (ℕ × ℕ))). list_any (is_entry m p k) w) notes.waiting_is

    left_before : (at p k : ℕ) → IsLeft b at p k → IsLeft a at p k
    left_before at p k left = record {
      not_next = elim (cases_Bool (is_next a p k)) [
        | inl next ↦ absurd (false≢true (sym left.not_next ∙ notes.next_still p k next))
        | inr none ↦ none
      ];
      not_due = λ m it. left.not_due m (waits_same m p k ∙ it);
    }

    agenda : IsAgendaOf s O (Ask ask ∷ L) b
    agenda = record {
      next_named = λ p k it. elim (notes.next_from p k it) [
        | inl before ↦ watches.is_agenda.next_named p k before
        | inr now ↦ ap (λ (t : HubSettings). is_participant t p) (sym same) ∙ now
      ];
      waiting_named = λ m p k it. watches.is_agenda.waiting_named m p k (sym (waits_same m p k) ∙ it);
      rests = λ p k x participant there at left.
          let differs : named_by ask.who ask.command ≢ Some (p, x.id) = λ named.
          false≢true (sym left.not_next ∙ notes.noted O (Ask ask ∷ L) (runs O L watches.ran).1 p k x (ap (λ (t : HubSettings). at_place p (history t O (Ask ask ∷ L) p) k) same ∙ there) named) in
          let stood = unnamed_stood s O L ask p k x there differs in
          unnamed_rests s O watches.ran.opening L ask at p x differs (watches.is_agenda.rests p k x participant stood at (left_before at p k left));
    }

-- after an ask of which its asker keeps nothing there is no more to do than before
pub watches_quiet : (hub middle : World) (a : Agenda) (ask : AskValue) (told : Answer) (n : ℕ) → Runs hub (Ask ask) told middle → world_settings middle ≡ world_settings hub
    → ((O : Opening) (L : List Step) → HasRun O L hub → length (history (world_settings hub) O L ask.who) ≡ n)
    → ((O : Opening) (L : List Step) → HasRun O L middle → length (history (world_settings middle) O L ask.who) ≤ n)
    → (O : Opening) (L : List Step) → Watches O L hub a
    → (told ≡ answer (world_settings hub) O L (Ask ask)) × Watches O (Ask ask ∷ L) middle a
watches_quiet hub middle a ask told n runs same before after O L watches =
    let ran = runs O L watches.ran in
    let long : length (history s O (Ask ask ∷ L) ask.who) ≤ n = subst (λ (t : HubSettings). length (history t O (Ask ask ∷ L) ask.who) ≤ n) same (after O (Ask ask ∷ L) ran.1) in
    let kept = no_longer_is_same s O (Ask ask) L ask.who n (before O L watches.ran) long in
    (ran.0, record { ran = ran.1; is_agenda = subst (λ (t : HubSettings). IsAgendaOf t O (Ask ask ∷ L) a) (sym same) (agenda kept) })
  where
    s : HubSettings
    s = world_settings hub

    agenda : history s O (Ask ask ∷ L) ask.who ≡ history s O L ask.who → IsAgendaOf s O (Ask ask ∷ L) a
    agenda kept = record {
      next_named = watches.is_agenda.next_named;
      waiting_named = watches.is_agenda.waiting_named;
      rests = λ p k x participant there at left.
          let stood : at_place p (history s O L p) k ≡ Some x = ap (λ (J : List Event). at_place p J k) (sym (all_stay s O ask L kept p)) ∙ there in
          rests_stays s O (Ask ask) L at p x (quiet_outcome s O watches.ran.opening L ask kept p x.id) (watches.is_agenda.rests p k x participant stood at left);
    }
