-- A history that some participant of some hub can have. The statement doesn't depend on which. A
-- choice of this hub.
use Rattle.std.specs.Prelude.{ℕ, List}
use Rattle.inst_settings.specs.Settings.{HubSettings}
use Rattle.inst_settings.specs.Lawful.{IsSettings}
use Rattle.inst_journal.specs.declared.event.Event.{Event}
use Rattle.inst_journal.specs.Sound.{IsSound}

pub record IsSomeones (J : List Event) : Type 0 where
  pub settings : HubSettings
  pub who : ℕ
  pub lawful : IsSettings settings
  pub sound : IsSound settings who J
