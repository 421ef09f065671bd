-- The headline for lines. The steps that lines stand for, with the model's answers and histories,
-- are a run like any other, and the replies to the lines are among its answers. Having lines stand
-- for these steps is a choice of this hub.
use Rattle.std.specs.Prelude.{◌≡◌, ℕ, List, [], ◌∷◌, ◌++◌, length, reverse, slice_get, Some, Result}
use Rattle.std.specs.Prelude.{Ok, Err, if◌then◌else◌}
use Rattle.inst_base.specs.declared.fault.Fault.{Fault}
use Rattle.inst_base.specs.declared.fault.Fault.TheVariants.{LineTooLong}
use Rattle.inst_base.specs.Newline.{newline}
use Rattle.inst_settings.specs.Settings.{HubSettings, is_participant}
use Rattle.inst_command.specs.declared.ask.Ask.{Ask as AskValue}
use Rattle.inst_command.specs.declared.reply.Answer.{Answer}
use Rattle.inst_command.specs.declared.reply.Answer.TheVariants.{Reply}
use Rattle.inst_command.specs.declared.reply.Reply.TheVariants.{Refused}
use Rattle.inst_command.specs.declared.step.Step.{Step}
use Rattle.inst_command.specs.declared.step.Step.TheVariants.{Ask}
use Rattle.inst_json.specs.Lines.{command_of_line, step_of_line}
use Rattle.inst_model.specs.Hub.{history}
use Rattle.inst_model.specs.Trace.{trace}
use Rattle.inst_world.specs.Headline.{Run, run_of, KeepsTheHeadline}
use Rattle.inst_lines.specs.declared.mode.Mode.{Mode}
use Rattle.inst_lines.specs.declared.mode.Mode.TheVariants as modes
use Rattle.inst_lines.specs.Answers.{Answerer, is_too_long, state_after_line, state_after}
use Rattle.inst_lines.specs.Answering.{HubPast, new_past, hub_answerer, answer_text}

-- The run of a hub with this past.
abbrev pub run_through : HubPast → Run
run_through past = run_of past.opening (reverse past.steps)
    (λ p. if is_participant past.settings p then history past.settings past.opening past.steps p
    else [])
    (trace past.settings past.opening past.steps)

-- The run that lines stand for at a hub that opens for the first time and answers them so.
abbrev pub run_of_lines : Answerer HubPast → HubSettings → List (List ℕ) → Run
run_of_lines a s lines = run_through (state_after a (new_past s) lines)

-- That run keeps the headline.
abbrev pub LinesKeepTheHeadline : Answerer HubPast → HubSettings → List (List ℕ) → Type 0
LinesKeepTheHeadline a s lines = KeepsTheHeadline s (run_of_lines a s lines)

-- A command, as a step.
abbrev pub as_step : Result AskValue Fault → Result Step Fault
as_step (Ok ask) = Ok (Ask ask)
as_step (Err fault) = Err fault

-- The step that a line stands for, or the fault of a line that stands for none.
abbrev pub own_step : Mode → HubSettings → List ℕ → Result Step Fault
own_step modes.Run s line =
    if is_too_long line then Err LineTooLong else as_step (command_of_line s line)
own_step modes.Play s line = if is_too_long line then Err LineTooLong else step_of_line s line

-- The answer to a line: the run's answer to its step, which is the step at this index, or the
-- refusal of a line that stands for no step.
abbrev pub IsAnswerTo : Run → ℕ → Result Step Fault → Answer → Type 0
IsAnswerTo run index (Ok step) answer =
    (slice_get run.steps index ≡ Some step) × (slice_get run.answers index ≡ Some answer)
IsAnswerTo run index (Err fault) answer = answer ≡ Reply (Refused fault)

-- The answers to lines after this past, one for each line. The index of a line's step is the number
-- of steps before it; the answers to follow-ups aren't among them.
abbrev pub AreAnswersTo : Mode → HubPast → Run → List (List ℕ) → List Answer → Type 0
AreAnswersTo mode past run [] [] = Unit {0}
AreAnswersTo mode past run (line ∷ lines) (answer ∷ answers) =
    IsAnswerTo run (length past.steps) (own_step mode past.settings line) answer
    × AreAnswersTo mode (state_after_line (hub_answerer mode) past line) run lines answers
AreAnswersTo mode past run _ _ = ⊥

-- The texts of answers, with a newline after each.
abbrev pub texts_of : HubSettings → List Answer → List ℕ
texts_of s [] = []
texts_of s (answer ∷ answers) = (answer_text s answer ++ newline ∷ []) ++ texts_of s answers

-- The bytes are the texts of the run's answers to lines after this past.
pub record AreRepliesOf (run : Run) (mode : Mode) (past : HubPast) (lines : List (List ℕ))
    (bytes : List ℕ) : Type 0 where
  pub answers : List Answer
  pub are_answers : AreAnswersTo mode past run lines answers
  pub bytes_are : bytes ≡ texts_of past.settings answers
