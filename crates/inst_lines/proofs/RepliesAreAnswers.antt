-- The replies to lines are among the answers of the run behind them.
use Rattle.std.proofs.Common.{◌≡◌, ◌∙◌, ℕ, zero, suc, true, false, cond, List, [], ◌∷◌, ◌++◌, length, reverse, Result, Ok, Err, Some, refl, sym, ap}
use Rattle.std.specs.Prelude.{slice_get}
use Rattle.std.proofs.lemmas.List.{reverse-append, length-reverse}
use Rattle.inst_base.proofs.Lists.{last_at}
use Rattle.inst_base.specs.declared.fault.Fault.{Fault}
use Rattle.inst_base.specs.declared.fault.Fault.TheVariants.{LineTooLong}
use Rattle.inst_base.specs.Newline.{newline}
use Rattle.inst_settings.specs.Settings.{HubSettings}
use Rattle.inst_command.specs.declared.ask.Ask.{Ask as AskValue}
use Rattle.inst_command.specs.declared.reply.Answer.TheVariants.{Reply}
use Rattle.inst_command.specs.declared.reply.Reply.TheVariants.{Refused}
use Rattle.inst_command.specs.declared.step.Step.{Step}
use Rattle.inst_command.specs.declared.step.Step.TheVariants.{Ask}
use Rattle.inst_json.specs.Lines.{command_of_line, step_of_line}
use Rattle.inst_model.specs.Opening.{Opening}
use Rattle.inst_model.specs.Trace.{answer, trace}
use Rattle.inst_model.proofs.EntriesAndRepliesOfSteps.{replies_are_in_the_trace}
use Rattle.inst_lines.specs.declared.mode.Mode.{Mode}
use Rattle.inst_lines.specs.declared.mode.Mode.TheVariants.{Run, Play}
use Rattle.inst_lines.specs.Answers.{is_too_long, reply_to, state_after_line, state_after, output}
use Rattle.inst_lines.specs.Answering.{HubPast, hub_answerer, answer_text, step_answer, command_answer, after_step, after_command, script_answer, after_script, line_answer, after_line}
use Rattle.inst_lines.specs.inner.Answering.{any_line_answer, after_any_line}
use Rattle.inst_lines.specs.Headline.{run_through, as_step, own_step, IsAnswerTo, texts_of, AreRepliesOf}
use Rattle.inst_lines.proofs.AnswerToHeldLine.{text_of}
use Rattle.inst_lines.proofs.RunBehindLines.{Extends, and_later, follow_ups_extend, lines_extend}

still_at : {B : Type 0} (xs : List B) (y x : B) (k : ℕ) → slice_get xs k ≡ Some x → slice_get (xs ++ y ∷ []) k ≡ Some x
still_at [] y x k e = let no : ⊥ = cc in absurd no
still_at (z ∷ xs) y x zero e = e
still_at (z ∷ xs) y x (suc k) e = still_at xs y x k e

-- a list with one entry for each step, the oldest first, has that for this step at the number of steps before it
module _ {B : Type 0} (of : List Step → List B) (one : List Step → Step → B) (grows : (L : List Step) (step : Step) → of (step ∷ L) ≡ of L ++ one L step ∷ []) (long : (L : List Step) → length (of L) ≡ length L) where
  at_step : (more L : List Step) (step : Step) → slice_get (of (more ++ step ∷ L)) (length L) ≡ Some (one L step)
  at_step [] L step = ap (λ (n : ℕ). slice_get (of (step ∷ L)) n) (sym (long L)) ∙ ap (λ (xs : List B). slice_get xs (length (of L))) (grows L step) ∙ last_at (of L) (one L step)
  at_step (x ∷ more) L step =
      ap (λ (xs : List B). slice_get xs (length L)) (grows (more ++ step ∷ L) x)
      ∙ still_at (of (more ++ step ∷ L)) (one (more ++ step ∷ L) x) (one L step) (length L) (at_step more L step)

step_at : (more L : List Step) (step : Step) → slice_get (reverse (more ++ step ∷ L)) (length L) ≡ Some step
step_at = at_step reverse (λ L step. step) (λ L step. reverse-append (step ∷ []) L) length-reverse

answer_at : (s : HubSettings) (O : Opening) (more L : List Step) (step : Step) → slice_get (trace s O (more ++ step ∷ L)) (length L) ≡ Some (answer s O L step)
answer_at s O = at_step (trace s O) (answer s O) (λ L step. refl) (λ L. (replies_are_in_the_trace s O L 0).0)

-- the answer to a step is in the run of each hub that has gone through it
step_answered : (past later : HubPast) (step : Step) → Extends (after_step past step) later → IsAnswerTo (run_through later) (length past.steps) (Ok step) (step_answer past step)
step_answered past later step e = (
  ap (λ (L : List Step). slice_get (reverse L) (length past.steps)) e.steps_are ∙ step_at e.more past.steps step,
  ap (λ (L : List Step). slice_get (trace later.settings later.opening L) (length past.steps)) e.steps_are
      ∙ answer_at later.settings later.opening e.more past.steps step
      ∙ ap (λ (t : HubSettings). Some (answer t later.opening past.steps step)) e.settings_are
      ∙ ap (λ (O : Opening). Some (answer past.settings O past.steps step)) e.opening_is,
)

command_answered : (past later : HubPast) (read : Result AskValue Fault) → Extends (after_command past read) later → IsAnswerTo (run_through later) (length past.steps) (as_step read) (command_answer past read)
command_answered past later (Ok ask) e =
    step_answered past later (Ask ask) (and_later (after_step past (Ask ask)) (after_command past (Ok ask)) later (follow_ups_extend past ask) e)
command_answered past later (Err fault) e = refl

script_answered : (past later : HubPast) (read : Result Step Fault) → Extends (after_script past read) later → IsAnswerTo (run_through later) (length past.steps) read (script_answer past read)
script_answered past later (Ok step) e = step_answered past later step e
script_answered past later (Err fault) e = refl

-- a line is answered so
line_answered : (mode : Mode) (past later : HubPast) (line : List ℕ) → Extends (after_any_line mode past line) later → IsAnswerTo (run_through later) (length past.steps) (own_step mode past.settings line) (any_line_answer mode past line)
unfolding line_answer after_line
line_answered Run past later line e =
    let read : Result AskValue Fault = command_of_line past.settings line in
    elim (is_too_long line) as (λ b. Extends (cond b past (after_command past read)) later → IsAnswerTo (run_through later) (length past.steps) (cond b (Err LineTooLong) (as_step read)) (cond b (Reply (Refused LineTooLong)) (command_answer past read))) [
      | true ↦ λ e. refl
      | false ↦ λ e. command_answered past later read e
    ] e
line_answered Play past later line e =
    let read : Result Step Fault = step_of_line past.settings line in
    elim (is_too_long line) as (λ b. Extends (cond b past (after_script past read)) later → IsAnswerTo (run_through later) (length past.steps) (cond b (Err LineTooLong) read) (cond b (Reply (Refused LineTooLong)) (script_answer past read))) [
      | true ↦ λ e. refl
      | false ↦ λ e. script_answered past later read e
    ] e

reply_is : (mode : Mode) (past : HubPast) (line : List ℕ) → reply_to (hub_answerer mode) past line ≡ answer_text past.settings (any_line_answer mode past line)
unfolding answer_text
reply_is mode past line = sym (text_of mode past line)

pub replies_are_answers : (mode : Mode) (past : HubPast) (lines : List (List ℕ)) → AreRepliesOf (run_through (state_after (hub_answerer mode) past lines)) mode past lines (output (hub_answerer mode) past lines)
replies_are_answers mode past [] = record { answers = []; are_answers = tt; bytes_are = refl }
replies_are_answers mode past (line ∷ lines) =
    let next : HubPast = state_after_line (hub_answerer mode) past line in
    let later : HubPast = state_after (hub_answerer mode) next lines in
    let rest : AreRepliesOf (run_through later) mode next lines (output (hub_answerer mode) next lines) = replies_are_answers mode next lines in
    let same : next.settings ≡ past.settings = (lines_extend mode past (line ∷ [])).settings_are in
    record {
      answers = any_line_answer mode past line ∷ rest.answers;
      are_answers = (line_answered mode past later line (lines_extend mode next lines), rest.are_answers);
      bytes_are =
          ap (λ (text : List ℕ). (text ++ newline ∷ []) ++ output (hub_answerer mode) next lines) (reply_is mode past line)
          ∙ ap (λ (texts : List ℕ). (answer_text past.settings (any_line_answer mode past line) ++ newline ∷ []) ++ texts)
          (rest.bytes_are ∙ ap (λ (t : HubSettings). texts_of t rest.answers) same);
    }
