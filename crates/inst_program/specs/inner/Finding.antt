-- Finding the hub of a log.
use Rattle.std.specs.Prelude.{◌≡◌, ℕ, Bool, List, Result}
use Rattle.inst_settings.specs.Settings.{HubSettings}
use Rattle.inst_lines.specs.declared.mode.Mode.{Mode}
use Rattle.inst_logged.specs.Finding.{Unrefused}
use Rattle.inst_logged.specs.declared.error.LoggedError.{LoggedError}
use Rattle.inst_logged.specs.declared.hub.new_hub.NewHub.{NewHub}
use Rattle.inst_logged.specs.declared.version.Version.{Version}
use Rattle.inst_program.specs.Keeping.{IsLogOf}

-- If the file is a log of a hub of these settings, the hub with its first lines is found, and the
-- log isn't refused.
abbrev pub FindsGood : Mode → HubSettings → Bool → List ℕ → Result NewHub LoggedError → Type 0
FindsGood mode s must_be_there file result =
    (version : Version) (first : List ℕ) → IsLogOf mode s must_be_there file version first
    → Unrefused (λ hub. (hub.version ≡ version) × (hub.heading.batch.items ≡ first)) result
