-- Which hubs can be drilled. Drills are a choice of this hub.
use Rattle.std.specs.Prelude.{ℕ, ◌*◌, ◌<◌, ◌≤◌}
use Rattle.inst_settings.specs.Settings.{HubSettings, participants}
use Rattle.inst_drill.specs.declared.plan.TheConstants.{MOST_DRILL_OPENINGS}

-- A hub with these settings can do so many transfers in each of so many openings.
-- - two: there are an originator and a beneficiary.
-- - funding: one command can fund all transfers, of 100 cents each.
pub record MayDrill (s : HubSettings) (transfers openings : ℕ) : Type 0 where
  pub two : 2 ≤ participants s
  pub some_transfer : 0 < transfers
  pub places : transfers ≤ s.places
  pub funding : 100 * transfers ≤ s.ceiling
  pub some_opening : 0 < openings
  pub most_openings : openings ≤ MOST_DRILL_OPENINGS
