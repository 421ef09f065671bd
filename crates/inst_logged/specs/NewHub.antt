-- A hub that doesn't have the disk of its log yet. A choice of this hub.
use Rattle.std.specs.Prelude.{◌≡◌, ℕ, List}
use Rattle.inst_lines.specs.declared.mode.Mode.{Mode}
use Rattle.inst_lines.specs.Answering.{HubPast}
use Rattle.inst_logged.specs.LineAnswers.{HasOpened}
use Rattle.inst_logged.specs.Logged.{IsUnbegun}
use Rattle.inst_logged.specs.declared.version.Version.{Version}
use Rattle.inst_logged.specs.declared.hub.new_hub.NewHub.{NewHub}

-- A hub of this mode and past that has answered nothing, with these first lines of its log of this
-- version.
pub record IsNewHub (version : Version) (mode : Mode) (past : HubPast) (first : List ℕ)
    (hub : NewHub)
    : Type 0 where
  pub version_is : hub.version ≡ version
  pub opened : HasOpened mode past hub.answers
  pub first_is : hub.heading.batch.items ≡ first
  pub unbegun : IsUnbegun hub.version hub.heading.batch.items hub.heading.marker hub.intake
