-- The effect of a step on a world, for each function that has a slot run one.
use Rattle.std.specs.Prelude.{◌≡◌, IfOk, OnErr, Result}
use Rattle.std.specs.declared.alloc.AllocError.{AllocError}
use Rattle.inst_command.specs.declared.reply.Answer.{Answer}
use Rattle.inst_command.specs.declared.step.Step.{Step}
use Rattle.inst_world.specs.HasRun.{World, world_settings, Runs, IsAsBefore, TakesMemory}

-- From the first world to the second the step was run, or failed to allocate memory that it needs.
--
-- - ok: its result is the model's answer
-- - err: the world is as before
pub record RunsOrNeedsMemory {A : Type 0} (told : A →
    Answer) (old : World) (step : Step) (result : Result A AllocError)
    (new : World) : Type 0 where
  pub ok : IfOk result (λ x. Runs old step (told x) new)
  pub err : OnErr result (IsAsBefore old new)
  pub memory : OnErr result (TakesMemory old step)
  pub settings : world_settings new ≡ world_settings old
