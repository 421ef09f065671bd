-- The effect of a follow-up on a run's agenda.
use Rattle.std.specs.Prelude.{◌≡◌, ◌⊎◌, ℕ, true, List, ◌++◌, reverse, Option, Some, None}
use Rattle.inst_settings.specs.Settings.{is_participant}
use Rattle.inst_command.specs.declared.step.Step.{Step}
use Rattle.inst_command.specs.declared.place.Place.{Place}
use Rattle.inst_model.specs.Opening.{Opening}
use Rattle.inst_model.specs.Transfer.{Transfer, at_place, deadline}
use Rattle.inst_model.specs.Hub.{history, outcome}
use Rattle.inst_agenda.specs.Agenda.{Agenda, is_awaited, is_next}
use Rattle.inst_agenda.specs.FollowUps.{of_transfer}
use Rattle.inst_world.specs.HasRun.{World, world_settings, HasRun}

-- Places of this originator are among the next, and nothing else changed.
pub record NotesSome (old new : Agenda) (from : ℕ) : Type 0 where
  pub waiting_is : new.waiting ≡ old.waiting
  pub next_still : (p index : ℕ) → is_next old p index ≡ true → is_next new p index ≡ true
  pub next_from : (p index : ℕ) → is_next new p index ≡ true →
      (is_next old p index ≡ true) ⊎ (p ≡ from)

-- The live transfer that is named, if there is one, is among the next; nothing else changed but for
-- places of participants.
pub record NotesNamed (hub : World) (named : Option (ℕ × List ℕ)) (old new : Agenda) : Type 0 where
  pub waiting_is : new.waiting ≡ old.waiting
  pub next_still : (p index : ℕ) → is_next old p index ≡ true → is_next new p index ≡ true
  pub next_from : (p index : ℕ) → is_next new p index ≡ true →
      (is_next old p index ≡ true) ⊎ (is_participant (world_settings hub) p ≡ true)
  pub noted : (O : Opening) (L : List Step) → HasRun O L hub → (p index : ℕ) (x : Transfer) →
      at_place p (history (world_settings hub) O L p) index ≡ Some x → named ≡ Some (p, x.id) →
      is_next new p index ≡ true

-- The transfer at the place, if there is one, was followed up at this clock reading.
--
-- - none, some: the hub has run the steps for it
-- - waits_for: if it is pending then, it waits for its deadline
-- - waits_still, waits_from: nothing else waits that didn't
pub record GoesOver (O : Opening) (L : List Step) (at : ℕ) (place : Place) (hub new_hub : World)
    (old new : Agenda) : Type 0 where
  pub none : at_place place.owner (history (world_settings hub) O L place.owner) place.index
      ≡ None →
      HasRun O L new_hub
  pub some : (x : Transfer) →
      at_place place.owner (history (world_settings hub) O L place.owner) place.index ≡ Some x →
      HasRun O (reverse (of_transfer at place.owner place.index x.to) ++ L) new_hub
  pub waits_for : (x : Transfer) →
      at_place place.owner (history (world_settings hub) O L place.owner) place.index ≡ Some x →
      outcome (world_settings hub) O (reverse (of_transfer at place.owner place.index x.to)
      ++ L) place.owner x.id ≡ None →
      is_awaited new (deadline (world_settings hub) x) place.owner place.index ≡ true
  pub waits_still : (m p k : ℕ) → is_awaited old m p k ≡ true → is_awaited new m p k ≡ true
  pub waits_from : (m p k : ℕ) → is_awaited new m p k ≡ true →
      (is_awaited old m p k ≡ true) ⊎ ((p ≡ place.owner) × (k ≡ place.index))
