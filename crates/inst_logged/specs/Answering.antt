-- The replies of a hub in one thread to lines in their form in a log. A choice of this hub.
use Rattle.std.specs.Prelude.{◌≡◌, ℕ, List, [], map, length, Option, Some, None}
use Rattle.inst_settings.specs.Settings.{HubSettings}
use Rattle.inst_journal.specs.History.{History}
use Rattle.inst_world.specs.NextOpening.{opening_from, AreCarried}
use Rattle.inst_agenda.specs.declared.runner.Runner.{Runner}
use Rattle.inst_lines.specs.declared.mode.Mode.{Mode}
use Rattle.inst_lines.specs.Answers.{output, state_after}
use Rattle.inst_lines.specs.Answering.{HubPast, IsRunnerAt, hub_answerer}
use Rattle.inst_log.specs.Escape.{unescaped_line}
use Rattle.inst_chain.specs.Chain.{said}
use Rattle.inst_log.specs.Serving.{Replies}

-- The start of a hub that opens from these journals.
abbrev pub opened_from : HubSettings → List History → HubPast
opened_from s journals = record { settings = s; opening = opening_from journals; steps = [] }

-- The replies to the next lines of a hub with this past. Marks get none.
abbrev pub replies_at : Mode → HubPast → Replies
replies_at mode past lines = output (hub_answerer mode) past (map unescaped_line (said lines))

-- The hub's past after these lines.
abbrev pub past_after : Mode → HubPast → List (List ℕ) → HubPast
past_after mode past lines = state_after (hub_answerer mode) past (map unescaped_line (said lines))

-- `replies` is the function from the next lines to the runner's replies.
pub record SaysLines (mode : Mode) (runner : Runner) (replies : Replies) : Type 0 where
  pub past : HubPast
  pub keeps : IsRunnerAt mode past runner
  pub are : (lines : List (List ℕ)) → replies lines ≡ replies_at mode past lines

-- The journals are the books of a hub with this past that answered these lines and was closed.
abbrev pub AreBooksAfter : Mode → HubPast → List (List ℕ) → List History → Type 0
AreBooksAfter mode past lines journals =
    let after =
    past_after mode past lines in AreCarried after.settings after.opening after.steps journals

-- The number of the log's lines whose replies the client has; `None`: all. Marks aren't counted.
abbrev pub told_count : Option ℕ → List (List ℕ) → ℕ
told_count None lines = length lines
told_count (Some told) lines = told
