-- The steps that fit a hub. A step is one event under one participant's lock. A choice of this hub.
use Rattle.std.specs.Prelude.{Bool, ◌&&◌}
use Rattle.inst_settings.specs.Settings.{HubSettings, is_participant}
use Rattle.inst_command.specs.Ask.{ask_fits}
use Rattle.inst_command.specs.declared.step.Step.{Step}
use Rattle.inst_command.specs.declared.step.Step.TheVariants.{Ask, Deliver, Learn, Expire}

-- True if the step fits a hub with these settings.
abbrev pub step_fits : HubSettings → Step → Bool
step_fits s (Ask ask) = ask_fits s ask
step_fits s (Deliver from index to) = is_participant s from && is_participant s to
step_fits s (Learn who from index) = is_participant s who && is_participant s from
step_fits s (Expire who index at) = is_participant s who
