-- An interleaving: any list of steps that fit the settings, newest first; `World::run` and
-- `Books::interleaving` have steps oldest first. Clock readings needn't rise, and commands,
-- deliveries and learnings may come in any order. A choice of this hub.
use Rattle.std.specs.Prelude.{◌≡◌, true, List}
use Rattle.std.specs.List.{AllByRecursion}
use Rattle.inst_settings.specs.Settings.{HubSettings}
use Rattle.inst_command.specs.Step.{step_fits}
use Rattle.inst_command.specs.declared.step.Step.{Step}

abbrev pub IsInterleaving : HubSettings → List Step → Type 0
IsInterleaving s L = AllByRecursion (λ step. step_fits s step ≡ true) L
