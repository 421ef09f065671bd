use Rattle.std.proofs.Common.{ap, ◌∙◌, []}
use Rattle.std.proofs.lemmas.Result.{IfOk-weaker}
use Rattle.inst_model.specs.Opening.Opening.{First}
use Rattle.inst_world.specs.HasRun.{world_settings}
use Rattle.inst_agenda.proofs.runner.Runner.open.Goals as goal

pub returns-clause-settings : goal.returns-clause-settings
returns-clause-settings c =
    IfOk-weaker c.new.result _ _ (λ runner is. ap world_settings is ∙ c.in_ok-world.ensures.ok.0) c.new.ensures.world

pub returns-clause-watches : goal.returns-clause-watches
returns-clause-watches c =
    IfOk-weaker c.new.result _ _ (λ runner watches. watches First [] c.in_ok-world.ensures.ok.1) c.new.ensures.ok
