-- The answers of a hub to lines. In a run a line is a command, and the follow-ups come after it. In
-- a play a line is one step, without follow-ups. A line that can't be read changes nothing. A
-- choice of this hub.
use Rattle.std.specs.Prelude.{◌≡◌, ℕ, Bool, true, false, List, [], ◌∷◌, Result, Ok, Err}
use Rattle.serde_json.specs.Written.{compact_text}
use Rattle.inst_base.specs.declared.fault.Fault.{Fault}
use Rattle.inst_base.specs.declared.fault.Fault.TheVariants.{LineTooLong}
use Rattle.inst_settings.specs.Settings.{HubSettings}
use Rattle.inst_command.specs.declared.ask.Ask.{Ask as AskValue}
use Rattle.inst_command.specs.declared.reply.Reply.TheVariants.{Done, Taken, State, Inbox, Position}
use Rattle.inst_command.specs.declared.reply.Reply.TheVariants.{Statement, Refused}
use Rattle.inst_command.specs.declared.reply.Answer.{Answer}
use Rattle.inst_command.specs.declared.reply.Answer.TheVariants.{Reply, New}
use Rattle.inst_command.specs.declared.step.Step.{Step}
use Rattle.inst_command.specs.declared.step.Step.TheVariants.{Ask}
use Rattle.inst_json.specs.Lines.{command_of_line, step_of_line}
use Rattle.inst_json.specs.Replies.{answer_data, refused_data}
use Rattle.inst_model.specs.Opening.{Opening}
use Rattle.inst_model.specs.Opening.Opening.{First}
use Rattle.inst_model.specs.Trace.{answer}
use Rattle.inst_lines.specs.declared.mode.Mode.{Mode}
use Rattle.inst_lines.specs.declared.mode.Mode.TheVariants.{Run, Play}
use Rattle.inst_agenda.specs.declared.runner.Runner.{Runner}
use Rattle.inst_lines.specs.Answers.{Answerer}
use Rattle.inst_agenda.specs.FollowUps.{followed_up}
use Rattle.inst_world.specs.HasRun.{World, world_settings, HasRun}
use Rattle.inst_agenda.specs.Watching.{Watches}

-- The past of a hub: how it was opened, and all steps since, newest first.
pub record HubPast : Type 0 where
  pub settings : HubSettings
  pub opening : Opening
  pub steps : List Step

-- The past of a hub that opens for the first time.
abbrev pub new_past : HubSettings → HubPast
new_past s = record { settings = s; opening = First; steps = [] }

-- The world has this past.
pub record IsPastOf (past : HubPast) (hub : World) : Type 0 where
  pub settings_are : world_settings hub ≡ past.settings
  pub ran : HasRun past.opening past.steps hub

-- The runner's world has this past, and its agenda fits it.
pub record IsRunOf (past : HubPast) (runner : Runner) : Type 0 where
  pub settings_are : world_settings runner.world ≡ past.settings
  pub watches : Watches past.opening past.steps runner.world runner.agenda

-- The runner has this past; in a run its agenda fits too.
abbrev pub IsRunnerAt : Mode → HubPast → Runner → Type 0
IsRunnerAt Run past runner = IsRunOf past runner
IsRunnerAt Play past runner = IsPastOf past runner.world

-- The model's answer to a step after this past.
abbrev pub step_answer : HubPast → Step → Answer
step_answer past step = answer past.settings past.opening past.steps step

-- The past after a step.
abbrev pub after_step : HubPast → Step → HubPast
after_step past step = record past { steps = step ∷ past.steps }

-- The past after the follow-ups at this clock reading.
abbrev pub after_follow_ups : HubPast → ℕ → HubPast
after_follow_ups past at =
    record past { steps = followed_up past.settings past.opening past.steps at }

-- The answer to a command line, by its reading.
abbrev pub command_answer : HubPast → Result AskValue Fault → Answer
command_answer past (Ok ask) = step_answer past (Ask ask)
command_answer past (Err fault) = Reply (Refused fault)

-- The past after a command line. A refusal by a slot is an answer like any other.
abbrev pub after_command : HubPast → Result AskValue Fault → HubPast
after_command past (Ok ask) = after_follow_ups (after_step past (Ask ask)) ask.at
after_command past (Err fault) = past

-- The answer to a script line, by its reading.
abbrev pub script_answer : HubPast → Result Step Fault → Answer
script_answer past (Ok step) = step_answer past step
script_answer past (Err fault) = Reply (Refused fault)

-- The past after a script line.
abbrev pub after_script : HubPast → Result Step Fault → HubPast
after_script past (Ok step) = after_step past step
after_script past (Err fault) = past

-- The answer to a line.
unfoldable pub line_answer : Mode → HubPast → List ℕ → Answer
line_answer Run past line = command_answer past (command_of_line past.settings line)
line_answer Play past line = script_answer past (step_of_line past.settings line)

-- The past after a line.
unfoldable pub after_line : Mode → HubPast → List ℕ → HubPast
after_line Run past line = after_command past (command_of_line past.settings line)
after_line Play past line = after_script past (step_of_line past.settings line)

-- True if the answer is a refusal.
abbrev pub is_refusal : Answer → Bool
is_refusal (New new) = false
is_refusal (Reply (Done reference)) = false
is_refusal (Reply (Taken id deadline)) = false
is_refusal (Reply (State from id state)) = false
is_refusal (Reply (Inbox entries)) = false
is_refusal (Reply (Position position reserved available)) = false
is_refusal (Reply (Statement lines)) = false
is_refusal (Reply (Refused fault)) = true

-- The text of an answer.
unfoldable pub answer_text : HubSettings → Answer → List ℕ
answer_text s answer = compact_text (answer_data s answer)

-- The text of the refusal of a line that is too long.
unfoldable pub too_long_text : List ℕ
too_long_text = compact_text (refused_data LineTooLong)

-- The answers of a hub to lines.
abbrev pub hub_answerer : Mode → Answerer HubPast
hub_answerer mode = record {
  reply = λ past line. answer_text past.settings (line_answer mode past line);
  next = after_line mode;
  is_refusal = λ past line. is_refusal (line_answer mode past line);
  too_long = too_long_text;
}

-- The answers in a run.
abbrev pub run_answerer : Answerer HubPast
run_answerer = hub_answerer Run

-- The answers in a play.
abbrev pub play_answerer : Answerer HubPast
play_answerer = hub_answerer Play
