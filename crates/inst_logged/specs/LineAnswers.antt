-- The mode and the past of the hub that answers the lines of a log. A choice of this hub.
use Rattle.std.specs.Prelude.{◌≡◌}
use Rattle.inst_lines.specs.declared.mode.Mode.{Mode}
use Rattle.inst_lines.specs.Answering.{HubPast, IsRunnerAt}
use Rattle.inst_logged.specs.declared.line_answers.LineAnswers.{LineAnswers}

-- The hub has this mode and this past.
pub record HasOpened (mode : Mode) (past : HubPast) (answers : LineAnswers) : Type 0 where
  pub mode_is : answers.mode ≡ mode
  pub keeps : IsRunnerAt mode past answers.runner
