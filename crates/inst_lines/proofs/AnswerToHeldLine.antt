-- What is answered to a line as it is held, at any hub.
use Rattle.std.proofs.Common.{◌≡◌, ◌≢◌, inl, inr, ℕ, ◌≤◌, Bool, true, false, cond, List, [], ◌∷◌, ◌++◌, length, Result, Ok, Err, IfOk, OnOk, refl, sym, ap, subst, ◌∙◌}
use Rattle.std.proofs.lemmas.Bool.{le-ltb}
use Rattle.std.specs.declared.alloc.AllocError.{AllocError}
use Rattle.serde_json.specs.Written.{compact_text}
use Rattle.inst_base.specs.declared.fault.Fault.{Fault}
use Rattle.inst_base.specs.declared.fault.Fault.TheVariants.{LineTooLong, Memory}
use Rattle.inst_base.specs.Fault.{IsUnlessMemory}
use Rattle.inst_settings.specs.Settings.{HubSettings}
use Rattle.inst_command.specs.declared.ask.Ask.{Ask as AskValue}
use Rattle.inst_command.specs.declared.reply.Answer.{Answer}
use Rattle.inst_command.specs.declared.reply.Answer.TheVariants.{Reply}
use Rattle.inst_command.specs.declared.reply.Reply.TheVariants.{Refused}
use Rattle.inst_command.specs.declared.step.Step.{Step}
use Rattle.inst_command.specs.declared.step.Step.TheVariants.{Ask}
use Rattle.inst_json.specs.declared.refusal.Refusal.{Refusal}
use Rattle.inst_json.specs.Refusals.{IsReadUnlessMemory, by_fault}
use Rattle.inst_json.specs.Lines.{blamed_command_of_line, command_of_line, step_of_line}
use Rattle.inst_json.specs.Replies.{answer_data, answer_can_be_written}
use Rattle.inst_model.specs.Opening.{Opening}
use Rattle.inst_model.specs.Opening.Opening.{First}
use Rattle.inst_lines.specs.declared.mode.Mode.{Mode}
use Rattle.inst_lines.specs.declared.mode.Mode.TheVariants.{Run, Play}
use Rattle.inst_agenda.specs.declared.runner.Runner.{Runner}
use Rattle.inst_lines.specs.Answers.{is_too_long, reply_to, is_refused, AnswersLine}
use Rattle.inst_lines.specs.Answering.{HubPast, IsRunnerAt, new_past, hub_answerer, answer_text, too_long_text, is_refusal, line_answer, after_line}
use Rattle.inst_lines.specs.Answering.{command_answer, after_command, script_answer, after_script}
use Rattle.inst_lines.specs.inner.Answering.{any_line_answer, after_any_line, RepliesToLine, RepliesToRead}
use Rattle.inst_agenda.specs.FollowUps.{followed_up}
use Rattle.inst_world.specs.HasRun.{world_settings, Runs}
use Rattle.inst_agenda.specs.Watching.{Watches}
use Rattle.inst_model.specs.Trace.{answer as the_answer}
use Rattle.inst_lines.specs.Limits.{most_line_bytes}
use Rattle.inst_base.specs.Newline.{newline}

-- a line that is read whole is answered as one of any length
whole : (mode : Mode) (old new : Runner) (line : List ℕ) (answer : Answer) → length line ≤ most_line_bytes → ((past : HubPast) → IsRunnerAt mode past old → answer ≡ line_answer mode past line)
    → ((past : HubPast) → IsRunnerAt mode past old → IsRunnerAt mode (after_line mode past line) new) → world_settings new.world ≡ world_settings old.world → answer_can_be_written (world_settings old.world) answer ≡ true
    → RepliesToLine mode false line old new answer
whole mode old new line answer short told after same can =
    let fits : is_too_long line ≡ false = le-ltb most_line_bytes (length line) short in
    record {
      told = λ past of front none. told past of ∙ sym (ap (λ b. cond b (Reply (Refused LineTooLong)) (line_answer mode past line)) fits) ∙ sym (ap (λ f. any_line_answer mode past (f ++ line)) none);
      after = λ past of front none.
          subst (λ (p : HubPast). IsRunnerAt mode p new) (sym (ap (λ b. cond b past (after_line mode past line)) fits) ∙ sym (ap (λ f. after_any_line mode past (f ++ line)) none)) (after past of);
      same_settings = same;
      can_be_written = can;
    }

pub command_whole : (old new : Runner) (line : List ℕ) (answer : Answer) → length line ≤ most_line_bytes
    → RepliesToRead Run old new answer (λ past. command_answer past (command_of_line (world_settings old.world) line)) (λ past. after_command past (command_of_line (world_settings old.world) line))
    → RepliesToLine Run false line old new answer
unfolding line_answer after_line
command_whole old new line answer short r =
    whole Run old new line answer short
    (λ past of. r.told past of ∙ ap (λ s. command_answer past (command_of_line s line)) of.settings_are)
    (λ past of. subst (λ (p : HubPast). IsRunnerAt Run p new) (ap (λ s. after_command past (command_of_line s line)) of.settings_are) (r.after past of))
    r.same_settings r.can_be_written

pub script_whole : (old new : Runner) (line : List ℕ) (answer : Answer) → length line ≤ most_line_bytes
    → RepliesToRead Play old new answer (λ past. script_answer past (step_of_line (world_settings old.world) line)) (λ past. after_script past (step_of_line (world_settings old.world) line))
    → RepliesToLine Play false line old new answer
unfolding line_answer after_line
script_whole old new line answer short r =
    whole Play old new line answer short
    (λ past of. r.told past of ∙ ap (λ s. script_answer past (step_of_line s line)) of.settings_are)
    (λ past of. subst (λ (p : HubPast). IsRunnerAt Play p new) (ap (λ s. after_script past (step_of_line s line)) of.settings_are) (r.after past of))
    r.same_settings r.can_be_written

settings_kept : (mode : Mode) (past : HubPast) (runner : Runner) → IsRunnerAt mode past runner → world_settings runner.world ≡ past.settings
settings_kept Run past runner of = of.settings_are
settings_kept Play past runner of = of.settings_are

pub text_of : (mode : Mode) (past : HubPast) (line : List ℕ) → compact_text (answer_data past.settings (any_line_answer mode past line)) ≡ reply_to (hub_answerer mode) past line
unfolding answer_text too_long_text
text_of mode past line =
    elim (is_too_long line) as (λ b. compact_text (answer_data past.settings (cond b (Reply (Refused LineTooLong)) (line_answer mode past line))) ≡ cond b too_long_text (answer_text past.settings (line_answer mode past line))) [
      | true ↦ refl
      | false ↦ refl
    ]

refusal_of : (mode : Mode) (past : HubPast) (line : List ℕ) → is_refusal (any_line_answer mode past line) ≡ is_refused (hub_answerer mode) past line
refusal_of mode past line =
    elim (is_too_long line) as (λ b. is_refusal (cond b (Reply (Refused LineTooLong)) (line_answer mode past line)) ≡ cond b true (is_refusal (line_answer mode past line))) [
      | true ↦ refl
      | false ↦ refl
    ]

-- the answer to a line, appended, answers the line
pub answers_line : (mode : Mode) (is_long : Bool) (part : List ℕ) (old new : Runner) (answer : Answer) (out out' : List ℕ) (refused : Bool) → RepliesToLine mode is_long part old new answer
    → out' ≡ out ++ (compact_text (answer_data (world_settings new.world) answer) ++ newline ∷ []) → refused ≡ is_refusal answer → AnswersLine (hub_answerer mode) (IsRunnerAt mode) is_long part old new out out' refused
answers_line mode is_long part old new answer out out' refused replies appended refusal = record {
  reply = λ past of front is_front.
      let line : List ℕ = front ++ part in
      appended ∙ ap (λ t. out ++ (t ++ newline ∷ []))
      (ap (λ s. compact_text (answer_data s answer)) (replies.same_settings ∙ settings_kept mode past old of) ∙ ap (λ r. compact_text (answer_data past.settings r)) (replies.told past of front is_front) ∙ text_of mode past line);
  state = replies.after;
  refusal = λ past of front is_front. refusal ∙ ap is_refusal (replies.told past of front is_front) ∙ refusal_of mode past (front ++ part);
}

pub ok_both : {X E : Type 0} (r : Result X E) (P : X → Type 0) (Q : Type 0) → IfOk r P → OnOk r Q → IfOk r (λ x. P x × Q)
ok_both (Ok x) P Q first second = (first, second)
ok_both (Err e) P Q first second = tt

-- what was read
pub read_ok : {X : Type 0} (r value : Result X Fault) (x : X) → r ≡ Ok x → IsUnlessMemory r value → value ≡ Ok x
read_ok r value x is read = elim read [
  | inl memory ↦ let e : Ok x ≡ Err Memory = sym is ∙ memory in let no : ⊥ = cc in absurd no
  | inr same ↦ sym same ∙ is
]

pub read_err : {X : Type 0} (r value : Result X Fault) (fault : Fault) → r ≡ Err fault → fault ≢ Memory → IsUnlessMemory r value → value ≡ Err fault
read_err {X} r value fault is other read = elim read [
  | inl memory ↦
      let e : ◌≡◌ {A = Result X Fault} (Err fault) (Err Memory) = sym is ∙ memory in
      let same : fault ≡ Memory = cc in
      absurd (other same)
  | inr same ↦ sym same ∙ is
]

-- a command that is read with the field of its refusal
pub read_blamed : (s : HubSettings) (line : List ℕ) (r : Result AskValue Refusal) → IsReadUnlessMemory r (blamed_command_of_line s line) → IsUnlessMemory (by_fault r) (command_of_line s line)
unfolding command_of_line
read_blamed s line (Ok ask) read = inr (ap by_fault read)
read_blamed s line (Err refusal) read = elim read [
  | inl memory ↦ inl (ap (λ (fault : Fault). Err fault) memory)
  | inr same ↦ inr (ap by_fault same)
]

-- a line that is refused in reading
pub refused_read : {X : Type 0} (mode : Mode) (old : Runner) (fault : Fault) (value : Result X Fault) (answered : HubPast → Result X Fault → Answer) (left : HubPast → Result X Fault → HubPast) (answer : Answer)
    → ((past : HubPast) → answered past (Err fault) ≡ Reply (Refused fault)) → ((past : HubPast) → left past (Err fault) ≡ past) → value ≡ Err fault → answer ≡ Reply (Refused fault)
    → RepliesToRead mode old old answer (λ past. answered past value) (λ past. left past value)
refused_read mode old fault value answered left answer refuses leaves is told = record {
  told = λ past of. told ∙ sym (refuses past) ∙ ap (answered past) (sym is);
  after = λ past of. subst (λ (p : HubPast). IsRunnerAt mode p old) (sym (leaves past) ∙ ap (left past) (sym is)) of;
  same_settings = refl;
  can_be_written = rw told refl;
}

-- a step of a script
pub script_read : (old new : Runner) (step : Step) (value : Result Step Fault) (answer : Answer) → value ≡ Ok step → Runs old.world step answer new.world → world_settings new.world ≡ world_settings old.world
    → answer_can_be_written (world_settings old.world) answer ≡ true → RepliesToRead Play old new answer (λ past. script_answer past value) (λ past. after_script past value)
script_read old new step value answer is runs same can =
    subst (λ (v : Result Step Fault). RepliesToRead Play old new answer (λ past. script_answer past v) (λ past. after_script past v)) (sym is) (record {
      told = λ past of. (runs past.opening past.steps of.ran).0 ∙ ap (λ s. script_answer (record past { settings = s }) (Ok step)) of.settings_are;
      after = λ past of. record { settings_are = same ∙ of.settings_are; ran = (runs past.opening past.steps of.ran).1 };
      same_settings = same;
      can_be_written = can;
    })

-- a command, and what followed it
pub command_read : (old middle new : Runner) (ask : AskValue) (value : Result AskValue Fault) (answer : Answer) → value ≡ Ok ask
    → ((O : Opening) (L : List Step) → Watches O L old.world old.agenda → (answer ≡ the_answer (world_settings old.world) O L (Ask ask)) × Watches O (Ask ask ∷ L) middle.world middle.agenda)
    → world_settings middle.world ≡ world_settings old.world
    → ((O : Opening) (L : List Step) → Watches O L middle.world middle.agenda → Watches O (followed_up (world_settings middle.world) O L ask.at) new.world new.agenda)
    → world_settings new.world ≡ world_settings middle.world → answer_can_be_written (world_settings old.world) answer ≡ true
    → RepliesToRead Run old new answer (λ past. command_answer past value) (λ past. after_command past value)
command_read old middle new ask value answer is asked same follows same' can =
    subst (λ (v : Result AskValue Fault). RepliesToRead Run old new answer (λ past. command_answer past v) (λ past. after_command past v)) (sym is) (record {
      told = λ past of. (asked past.opening past.steps of.watches).0 ∙ ap (λ s. command_answer (record past { settings = s }) (Ok ask)) of.settings_are;
      after = λ past of. record {
        settings_are = same' ∙ same ∙ of.settings_are;
        watches = subst (λ (s : HubSettings). Watches past.opening (followed_up s past.opening (Ask ask ∷ past.steps) ask.at) new.world new.agenda) (same ∙ of.settings_are)
            (follows past.opening (Ask ask ∷ past.steps) (asked past.opening past.steps of.watches).1);
      };
      same_settings = same' ∙ same;
      can_be_written = can;
    })

pub script_answered : (old new : Runner) (step : Step) (value : Result Step Fault) (result : Result Answer AllocError) → value ≡ Ok step → IfOk result (λ answer. Runs old.world step answer new.world)
    → IfOk result (λ answer. answer_can_be_written (world_settings old.world) answer ≡ true) → world_settings new.world ≡ world_settings old.world
    → IfOk result (λ answer. RepliesToRead Play old new answer (λ past. script_answer past value) (λ past. after_script past value))
script_answered old new step value (Ok answer) is runs can same = script_read old new step value answer is runs same can
script_answered old new step value (Err fault) is runs can same = tt

-- a runner of a hub that has just opened for the first time
pub keeps_opened : (s : HubSettings) (runner : Runner) → world_settings runner.world ≡ s → Watches First [] runner.world runner.agenda → (mode : Mode) → IsRunnerAt mode (new_past s) runner
keeps_opened s runner settings watches Run = record { settings_are = settings; watches = watches }
keeps_opened s runner settings watches Play = record { settings_are = settings; ran = watches.ran }
