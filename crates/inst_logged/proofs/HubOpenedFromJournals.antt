-- A hub with a log that opened from journals, and what it has run.
use Rattle.std.proofs.Common.{◌≡◌, ◌∙◌, ◌++◌, [], ℕ, List, map, ap, sym, subst}
use Rattle.inst_settings.specs.Settings.{HubSettings}
use Rattle.inst_command.specs.declared.step.Step.{Step}
use Rattle.inst_journal.specs.History.{History}
use Rattle.inst_model.specs.Interleaving.{IsInterleaving}
use Rattle.inst_model.specs.Opening.{Opening, IsOpening}
use Rattle.inst_world.specs.Headline.{KeepsTheHeadline}
use Rattle.inst_world.specs.HasRun.{World, HasRun, world_settings}
use Rattle.inst_world.specs.NextOpening.{opening_from, AreCarried}
use Rattle.inst_agenda.specs.declared.runner.Runner.{Runner}
use Rattle.inst_agenda.specs.Watching.{Watches}
use Rattle.inst_lines.specs.declared.mode.Mode.{Mode}
use Rattle.inst_lines.specs.declared.mode.Mode.TheVariants.{Run, Play}
use Rattle.inst_lines.specs.Answering.{HubPast, IsRunnerAt}
use Rattle.inst_lines.specs.Headline.{run_through}
use Rattle.inst_lines.proofs.RunBehindLines.{lines_keep}
use Rattle.inst_log.specs.Escape.{unescaped_line}
use Rattle.inst_chain.specs.Chain.{said}
use Rattle.inst_logged.specs.Answering.{opened_from, past_after}

pub keeps_again : (mode : Mode) (s : HubSettings) (journals : List History) (world : World) (runner : Runner) → world.board.settings ≡ s → HasRun (opening_from journals) [] world
    → runner.world ≡ world → ((O : Opening) (L : List Step) → HasRun O L world → Watches O L runner.world runner.agenda) → IsRunnerAt mode (opened_from s journals) runner
keeps_again Run s journals world runner settings run same watches =
    record { settings_are = ap world_settings same ∙ settings; watches = watches (opening_from journals) [] run }
keeps_again Play s journals world runner settings run same watches =
    record { settings_are = ap world_settings same ∙ settings; ran = subst (HasRun (opening_from journals) []) (sym same) run }

-- what a hub has gone through it has run
pub has_run : (mode : Mode) (past : HubPast) (runner : Runner) → IsRunnerAt mode past runner → (world_settings runner.world ≡ past.settings) × HasRun past.opening past.steps runner.world
has_run Run past runner keeps = (keeps.settings_are, keeps.watches.ran)
has_run Play past runner keeps = (keeps.settings_are, keeps.ran)

-- the run that lines behind it stand for keeps the headline
pub lines_behind_keep : (mode : Mode) (past : HubPast) (runner : Runner) (lines : List (List ℕ)) → IsRunnerAt mode past runner → KeepsTheHeadline past.settings (run_through (past_after mode past lines))
lines_behind_keep mode past runner lines keeps =
    let (settings, run) = has_run mode past runner keeps in
    lines_keep mode past (subst (λ (s : HubSettings). IsOpening s past.opening) settings run.opening) (subst (λ (s : HubSettings). IsInterleaving s past.steps) settings run.steps) (map unescaped_line (said lines))

-- the books that a hub carries are those of what it has gone through
pub are_carried : (mode : Mode) (past : HubPast) (runner : Runner) (journals : List History) → IsRunnerAt mode past runner
    → ((O : Opening) (L : List Step) → HasRun O L runner.world → AreCarried (world_settings runner.world) O L journals) → AreCarried past.settings past.opening past.steps journals
are_carried mode past runner journals keeps are =
    let (settings, run) = has_run mode past runner keeps in
    subst (λ (s : HubSettings). AreCarried s past.opening past.steps journals) settings (are past.opening past.steps run)
