-- The mode and the past of a hub for C that has opened and answered nothing. A choice of this hub.
use Rattle.std.specs.Prelude.{◌≡◌, []}
use Rattle.inst_settings.specs.Settings.{HubSettings}
use Rattle.inst_lines.specs.declared.mode.Mode.{Mode}
use Rattle.inst_lines.specs.Answering.{IsRunnerAt, new_past}
use Rattle.inst_c.specs.declared.line_hub.LineHub.{LineHub}

-- The hub has opened for the first time in this mode, and has answered nothing.
pub record HasFirstOpened (mode : Mode) (s : HubSettings) (hub : LineHub) : Type 0 where
  pub mode_is : hub.mode ≡ mode
  pub keeps : IsRunnerAt mode (new_past s) hub.runner
  pub no_reply : hub.reply.items ≡ []
