-- Answers to lines of any length.
use Rattle.std.specs.Prelude.{◌≡◌, ℕ, Bool, true, if◌then◌else◌, List, ◌++◌}
use Rattle.inst_base.specs.declared.fault.Fault.TheVariants.{LineTooLong}
use Rattle.inst_command.specs.declared.reply.Reply.TheVariants.{Refused}
use Rattle.inst_command.specs.declared.reply.Answer.{Answer}
use Rattle.inst_command.specs.declared.reply.Answer.TheVariants.{Reply}
use Rattle.inst_json.specs.Replies.{answer_can_be_written}
use Rattle.inst_lines.specs.declared.mode.Mode.{Mode}
use Rattle.inst_agenda.specs.declared.runner.Runner.{Runner}
use Rattle.inst_lines.specs.Answers.{is_too_long, IsFront}
use Rattle.inst_lines.specs.Answering.{HubPast, IsRunnerAt, line_answer, after_line}
use Rattle.inst_world.specs.HasRun.{world_settings}

-- The answer to a line of any length.
abbrev pub any_line_answer : Mode → HubPast → List ℕ → Answer
any_line_answer mode past line =
    if is_too_long line then Reply (Refused LineTooLong) else line_answer mode past line

-- The past after it.
abbrev pub after_any_line : Mode → HubPast → List ℕ → HubPast
after_any_line mode past line = if is_too_long line then past else after_line mode past line

-- A line is answered. This part of it is held; bytes before that may have been dropped.
pub record RepliesToLine (mode : Mode) (is_long : Bool) (part : List ℕ) (old new : Runner)
    (answer : Answer) : Type 0 where
  pub told : (past : HubPast) → IsRunnerAt mode past old
      → (front : List ℕ) → IsFront is_long front →
      answer ≡ any_line_answer mode past (front ++ part)
  pub after : (past : HubPast) → IsRunnerAt mode past old
      → (front : List ℕ) → IsFront is_long front →
      IsRunnerAt mode (after_any_line mode past (front ++ part)) new
  pub same_settings : world_settings new.world ≡ world_settings old.world
  pub can_be_written : answer_can_be_written (world_settings old.world) answer ≡ true

-- A line that was read has this answer and leaves this past, whatever the runner's past.
pub record RepliesToRead (mode : Mode) (old new : Runner) (answer : Answer) (answered : HubPast →
    Answer) (left : HubPast → HubPast) : Type 0 where
  pub told : (past : HubPast) → IsRunnerAt mode past old → answer ≡ answered past
  pub after : (past : HubPast) → IsRunnerAt mode past old → IsRunnerAt mode (left past) new
  pub same_settings : world_settings new.world ≡ world_settings old.world
  pub can_be_written : answer_can_be_written (world_settings old.world) answer ≡ true
