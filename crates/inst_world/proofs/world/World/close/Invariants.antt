use Rattle.std.proofs.Common.{◌≡◌, List, ◌++◌}
use Rattle.inst_settings.specs.Settings.{participants}
use Rattle.inst_command.specs.declared.step.Step.{Step}
use Rattle.inst_model.specs.Closing.{of_participants}
use Rattle.inst_model.specs.Opening.{Opening}
use Rattle.inst_world.specs.HasRun.{HasRun}
use Rattle.inst_world.specs.NextOpening.{HasOnlyTold}
use Rattle.inst_world.specs.inner.Closing.{HasAllBeneficiaries}
use Rattle.inst_world.proofs.world.World.close.Given as goal

abbrev pub invariant-loop-who : goal.invariant-loop-who
invariant-loop-who l = record {
  settings : l.self.board.settings ≡ l.fn.self.board.settings;
  ran : (O : Opening) (L : List Step) → HasRun O L l.fn.self →
      HasRun O (of_participants (participants l.fn.self.board.settings) l.fn.self.board.settings.places l.who ++ L) l.self;
  told : HasOnlyTold l.fn.self l.self;
  has : HasAllBeneficiaries l.self l.beneficiaries.items;
}
