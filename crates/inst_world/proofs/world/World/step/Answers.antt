use Rattle.std.proofs.Common.{subst}
use Rattle.inst_settings.specs.Lawful.{IsSettings}
use Rattle.inst_world.specs.HasRun.{World, world_settings, HasRunSomething}
use Rattle.inst_world.proofs.HubRunAfterStep.{of_model, unrun}
use Rattle.inst_world.proofs.world.World.step.Goals as goal

pub returns-clause-model : goal.returns-clause-model
returns-clause-model c =
    of_model (λ x. x) _ _ _ _ (subst HasRunSomething c.self.view_is c.self.invariant.3)
    (subst (λ (w : World). IsSettings (world_settings w)) c.self.view_is c.self.invariant.2) c.run_by_slot.ensures.ok

pub returns-clause-err : goal.returns-clause-err
returns-clause-err c = unrun _ _ _ _ c.run_by_slot.ensures.err c.run_by_slot.ensures.memory
