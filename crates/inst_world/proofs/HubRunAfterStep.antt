-- What a hub has run, after a step that was run or was refused its memory.
use Rattle.std.proofs.Common.{◌≡◌, ℕ, List, ◌∷◌, Some, Result, Ok, Err, IfOk, OnErr, sym, ap, subst, ◌∙◌}
use Rattle.std.specs.Prelude.{slice_get}
use Rattle.std.specs.declared.alloc.AllocError.{AllocError}
use Rattle.inst_settings.specs.Settings.{HubSettings}
use Rattle.inst_settings.specs.Lawful.{IsSettings}
use Rattle.inst_command.specs.declared.reply.Answer.{Answer}
use Rattle.inst_command.specs.declared.step.Step.{Step}
use Rattle.inst_command.specs.declared.place.Place.{Place}
use Rattle.inst_board.specs.Plain.{standing_at}
use Rattle.inst_model.specs.Opening.{Opening, IsOpening}
use Rattle.inst_model.specs.Interleaving.{IsInterleaving}
use Rattle.inst_model.specs.Transfer.{at_place}
use Rattle.inst_model.specs.Hub.{outcome, history}
use Rattle.inst_slot.specs.Book.{Book, place_at}
use Rattle.inst_world.specs.HasRun.{World, world_settings, IsBoardOf, HasRun, HasRunSomething, Runs, IsOfModel, IsAsBefore, TakesMemory, IsUnrun}
use Rattle.inst_world.specs.inner.Stepping.{RunsOrNeedsMemory}
use Rattle.inst_world.proofs.PlaceOfKnownTransfer.{same_for}

-- a hub that is as it was has run what it had
pub still_has_run : (old new : World) → IsAsBefore old new → (O : Opening) (L : List Step) → HasRun O L old → HasRun O L new
still_has_run old new same O L was =
    let at : HubSettings → Type 0 = λ s. IsOpening s O × IsInterleaving s L × ((p : ℕ) (book : Book) → slice_get new.books p ≡ Some book → book.events ≡ history s O L p) × IsBoardOf s O L new.board in
    let here : at (world_settings old) = (
      was.opening,
      was.steps,
      λ p book there. was.histories p book (ap (λ (xs : List Book). slice_get xs p) (sym same.books_are) ∙ there),
      λ p index.
          let k : Place = place_at p index in
          let s : HubSettings = world_settings old in
          same_for s (outcome s O L p) (at_place p (history s O L p) index) (standing_at old.board k) (standing_at new.board k) (same.board_says k) (was.board p index),
    ) in
    let r : at (world_settings new) = subst at (sym same.settings_are) here in
    record { opening = r.0; steps = r.1; histories = r.2; board = r.3 }

-- it has run something in any case
pub goes_on : {A : Type 0} (told : A → Answer) (old new : World) (step : Step) (result : Result A AllocError) → HasRunSomething old → RunsOrNeedsMemory told old step result new → HasRunSomething new
goes_on told old new step (Ok x) was ran = (was.0, step ∷ was.1, (ran.ok was.0 was.1 was.2).1)
goes_on told old new step (Err fault) was ran = (was.0, was.1, still_has_run old new ran.err was.0 was.1 was.2)

-- and what it answers is the model's
pub of_model : {A : Type 0} (told : A → Answer) (old new : World) (step : Step) (result : Result A AllocError) → HasRunSomething old → IsSettings (world_settings old)
    → IfOk result (λ x. Runs old step (told x) new) → IfOk result (λ x. IsOfModel (world_settings old) step (told x))
of_model told old new step (Ok x) was lawful ran = record {
  lawful = lawful;
  opening = was.0;
  steps = was.1;
  is_opening = was.2.opening;
  is_interleaving = was.2.steps;
  answer_is = (ran was.0 was.1 was.2).0;
}
of_model told old new step (Err fault) was lawful ran = tt

pub unrun : {A : Type 0} (old new : World) (step : Step) (result : Result A AllocError) → OnErr result (IsAsBefore old new) → OnErr result (TakesMemory old step) → OnErr result (IsUnrun old new step)
unrun old new step (Ok x) refused memory = tt
unrun old new step (Err fault) refused memory = record { as_before = refused; memory = memory; has_run = still_has_run old new refused }
