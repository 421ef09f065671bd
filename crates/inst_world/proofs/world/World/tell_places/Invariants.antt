use Rattle.std.proofs.Common.{◌≡◌, List, ◌++◌}
use Rattle.inst_command.specs.declared.step.Step.{Step}
use Rattle.inst_model.specs.Closing.{of_places}
use Rattle.inst_model.specs.Opening.{Opening}
use Rattle.inst_world.specs.HasRun.{HasRun}
use Rattle.inst_world.specs.NextOpening.{HasOnlyTold}
use Rattle.inst_world.specs.inner.Closing.{HasBeneficiaries}
use Rattle.inst_world.proofs.world.World.tell_places.Given as goal

abbrev pub invariant-loop-index : goal.invariant-loop-index
invariant-loop-index l = record {
  settings : l.self.board.settings ≡ l.fn.self.board.settings;
  ran : (O : Opening) (L : List Step) → HasRun O L l.fn.self → HasRun O (of_places l.who l.from l.index ++ L) l.self;
  told : HasOnlyTold l.fn.self l.self;
  has : HasBeneficiaries l.self l.from l.beneficiaries;
}
