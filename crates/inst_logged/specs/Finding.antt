-- Finding the hub of a log from its first lines. A choice of this hub.
use Rattle.std.specs.Prelude.{◌≡◌, ℕ, List, Result, MatchResult}
use Rattle.inst_settings.specs.Settings.{HubSettings}
use Rattle.inst_lines.specs.declared.mode.Mode.{Mode}
use Rattle.inst_log.specs.Opening.{Begins}
use Rattle.inst_logged.specs.declared.version.Version.{Version}
use Rattle.inst_logged.specs.declared.error.LoggedError.{LoggedError}
use Rattle.inst_logged.specs.declared.hub.new_hub.NewHub.{NewHub}
use Rattle.inst_logged.specs.Header.{AreFirstLines}
use Rattle.inst_logged.specs.Refused.{IsRefused}

-- The value has this property; an error isn't a refusal of the log.
abbrev pub Unrefused : {V : Type 0} → (V → Type 0) → Result V LoggedError → Type 0
Unrefused P result = MatchResult result P (λ error. ¬ IsRefused error)

-- If the file begins with the first lines of a log of these settings, the hub of this version and
-- these lines is found, and the log isn't refused.
abbrev pub FindsLog : Mode → HubSettings → List ℕ → Result NewHub LoggedError → Type 0
FindsLog mode s file result =
    (version : Version) (first : List ℕ) → AreFirstLines version mode s first → Begins first file
    → Unrefused (λ hub. (hub.version ≡ version) × (hub.heading.batch.items ≡ first)) result
