use Rattle.std.proofs.Common.{◌≡◌, [], reverse, take}
use Rattle.inst_model.specs.Opening.{Opening}
use Rattle.inst_model.specs.Trace.{trace}
use Rattle.inst_world.specs.HasRun.{HasRun}
use Rattle.inst_world.proofs.world.World.run_steps.Given as goal

abbrev pub invariant-loop-step : goal.invariant-loop-step
invariant-loop-step l = record {
  settings : l.self.board.settings ≡ l.fn.self.board.settings;
  ran : (O : Opening) → HasRun O [] l.fn.self → HasRun O (reverse (take l.step-index l.steps)) l.self
      × (l.answers.items ≡ trace l.fn.self.board.settings O (reverse (take l.step-index l.steps)));
}
