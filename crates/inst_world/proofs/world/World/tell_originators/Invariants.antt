use Rattle.std.proofs.Common.{◌≡◌, List, ◌++◌}
use Rattle.inst_command.specs.declared.step.Step.{Step}
use Rattle.inst_model.specs.Closing.{of_originators}
use Rattle.inst_model.specs.Opening.{Opening}
use Rattle.inst_world.specs.HasRun.{HasRun}
use Rattle.inst_world.specs.NextOpening.{HasOnlyTold}
use Rattle.inst_world.specs.inner.Closing.{HasAllBeneficiaries}
use Rattle.inst_world.proofs.world.World.tell_originators.Given as goal

abbrev pub invariant-loop-from : goal.invariant-loop-from
invariant-loop-from l = record {
  settings : l.self.board.settings ≡ l.fn.self.board.settings;
  ran : (O : Opening) (L : List Step) → HasRun O L l.fn.self → HasRun O (of_originators l.who l.fn.self.board.settings.places l.from ++ L) l.self;
  told : HasOnlyTold l.fn.self l.self;
  has : HasAllBeneficiaries l.self l.beneficiaries;
}
