-- The run behind lines: what a hub has gone through stays what a hub can go through, and its run keeps the headline.
use Rattle.std.proofs.Common.{◌≡◌, ◌∙◌, ℕ, zero, suc, ◌≤◌, Bool, true, false, List, [], ◌∷◌, ◌++◌, reverse, Result, Ok, Err, Option, Some, None, IfOk, IfSome, refl, sym, ap, subst, arith, append_assoc}
use Rattle.std.specs.Prelude.{slice_get, if◌then◌else◌}
use Rattle.std.specs.List.{AllByRecursion}
use Rattle.std.proofs.lemmas.Bool.{and_from, lt-ltb}
use Rattle.std.proofs.lemmas.List.{reverse-reverse}
use Rattle.inst_base.specs.declared.fault.Fault.{Fault}
use Rattle.inst_settings.specs.Settings.{HubSettings, participants, is_participant}
use Rattle.inst_command.specs.Ask.{ask_fits}
use Rattle.inst_command.specs.Step.{step_fits}
use Rattle.inst_command.specs.declared.ask.Ask.{Ask as AskValue}
use Rattle.inst_command.specs.declared.step.Step.{Step}
use Rattle.inst_command.specs.declared.step.Step.TheVariants.{Ask}
use Rattle.inst_json.specs.Lines.{command_of_line, step_of_line}
use Rattle.inst_model.specs.Hub.{history}
use Rattle.inst_model.specs.Interleaving.{IsInterleaving}
use Rattle.inst_model.specs.Opening.{Opening, IsOpening}
use Rattle.inst_model.specs.Trace.{trace}
use Rattle.inst_model.specs.Transfer.{Transfer, live_transfers}
use Rattle.inst_model.proofs.AllHistoriesTogether.{together}
use Rattle.inst_world.specs.Headline.{IsRun, KeepsTheHeadline}
use Rattle.inst_world.proofs.PlaceOfNamedTransfer.{to_participant}
use Rattle.inst_world.proofs.PromisesFollowFromLaws.{keeps_the_headline}
use Rattle.inst_agenda.specs.FollowUps.{of_transfers, steps_of_originators, follow_ups, followed_up}
use Rattle.inst_agenda.proofs.StepsAfterLine.{one_on}
use Rattle.inst_lines.specs.declared.mode.Mode.{Mode}
use Rattle.inst_lines.specs.declared.mode.Mode.TheVariants.{Run, Play}
use Rattle.inst_lines.specs.Answers.{is_too_long, state_after_line, state_after}
use Rattle.inst_lines.specs.Answering.{HubPast, new_past, hub_answerer, after_step, after_line, after_command, after_script}
use Rattle.inst_lines.specs.Headline.{run_through, LinesKeepTheHeadline}
use Rattle.inst_lines.proofs.ReadLineFitsHub.{ask_of_line_fits, step_of_line_fits}

-- a hub that has gone through the first has gone through the other later
pub record Extends (past later : HubPast) : Type 0 where
  pub settings_are : later.settings ≡ past.settings
  pub opening_is : later.opening ≡ past.opening
  pub more : List Step
  pub steps_are : later.steps ≡ more ++ past.steps

no_more : (past : HubPast) → Extends past past
no_more past = record { settings_are = refl; opening_is = refl; more = []; steps_are = refl }

pub and_later : (past middle later : HubPast) → Extends past middle → Extends middle later → Extends past later
and_later past middle later first second = record {
  settings_are = second.settings_are ∙ first.settings_are;
  opening_is = second.opening_is ∙ first.opening_is;
  more = second.more ++ first.more;
  steps_are = second.steps_are ∙ ap (λ (L : List Step). second.more ++ L) first.steps_are ∙ sym (append_assoc second.more first.more past.steps);
}

one_more : (past : HubPast) (step : Step) → Extends past (after_step past step)
one_more past step = record { settings_are = refl; opening_is = refl; more = step ∷ []; steps_are = refl }

-- what follows a command that was read, after its ask
pub follow_ups_extend : (past : HubPast) (ask : AskValue) → Extends (after_step past (Ask ask)) (after_command past (Ok ask))
follow_ups_extend past ask = record {
  settings_are = refl;
  opening_is = refl;
  more = reverse (follow_ups past.settings past.opening (Ask ask ∷ past.steps) ask.at);
  steps_are = refl;
}

command_extends : (past : HubPast) (read : Result AskValue Fault) → Extends past (after_command past read)
command_extends past (Ok ask) = and_later past (after_step past (Ask ask)) (after_command past (Ok ask)) (one_more past (Ask ask)) (follow_ups_extend past ask)
command_extends past (Err fault) = no_more past

script_extends : (past : HubPast) (read : Result Step Fault) → Extends past (after_script past read)
script_extends past (Ok step) = one_more past step
script_extends past (Err fault) = no_more past

line_extends : (mode : Mode) (past : HubPast) (line : List ℕ) → Extends past (after_line mode past line)
unfolding after_line
line_extends Run past line = command_extends past (command_of_line past.settings line)
line_extends Play past line = script_extends past (step_of_line past.settings line)

unless_long : (P : HubPast → Type 0) (b : Bool) (past left : HubPast) → P past → P left → P (if b then past else left)
unless_long P true past left here there = here
unless_long P false past left here there = there

pub lines_extend : (mode : Mode) (past : HubPast) (lines : List (List ℕ)) → Extends past (state_after (hub_answerer mode) past lines)
lines_extend mode past [] = no_more past
lines_extend mode past (line ∷ lines) =
    let next : HubPast = state_after_line (hub_answerer mode) past line in
    and_later past next (state_after (hub_answerer mode) next lines)
    (unless_long (λ (p : HubPast). Extends past p) (is_too_long line) past (after_line mode past line) (no_more past) (line_extends mode past line))
    (lines_extend mode next lines)

-- what follows a step fits
abbrev Fit : HubSettings → List Step → Type 0
Fit s steps = AllByRecursion (λ step. step_fits s step ≡ true) steps

fit_append : (s : HubSettings) (xs ys : List Step) → Fit s xs → Fit s ys → Fit s (xs ++ ys)
fit_append s [] ys first second = second
fit_append s (x ∷ xs) ys first second = (first.0, fit_append s xs ys first.1 second)

fit_onto : (s : HubSettings) (xs L : List Step) → Fit s xs → Fit s L → Fit s (reverse xs ++ L)
fit_onto s [] L first second = second
fit_onto s (x ∷ xs) L first second = subst (λ (M : List Step). Fit s M) (sym (one_on (x ∷ []) xs L)) (fit_onto s xs (x ∷ L) first.1 (first.0, second))

abbrev AreToParticipants : HubSettings → List Transfer → Type 0
AreToParticipants s xs = (k : ℕ) (x : Transfer) → slice_get xs k ≡ Some x → is_participant s x.to ≡ true

of_transfers_fit : (s : HubSettings) (at p index : ℕ) (xs : List Transfer) → is_participant s p ≡ true → AreToParticipants s xs → Fit s (of_transfers at p index xs)
of_transfers_fit s at p index [] one to = tt
of_transfers_fit s at p index (x ∷ xs) one to =
    let other : is_participant s x.to ≡ true = to 0 x refl in
    (and_from _ _ one other, (and_from _ _ one one, (one, (and_from _ _ other one, of_transfers_fit s at p (suc index) xs one (λ k y is. to (suc k) y is)))))

of_originators_fit : (s : HubSettings) (at : ℕ) (T : ℕ → List Transfer) (n : ℕ) → n ≤ participants s → ((p : ℕ) → AreToParticipants s (T p)) → Fit s (steps_of_originators at T n)
of_originators_fit s at T zero within to = tt
of_originators_fit s at T (suc p) within to =
    fit_append s (steps_of_originators at T p) (of_transfers at p 0 (T p)) (of_originators_fit s at T p (omega arith) to)
    (of_transfers_fit s at p 0 (T p) (lt-ltb p (participants s) (omega arith)) (to p))

follow_ups_fit : (s : HubSettings) (O : Opening) → IsOpening s O → (L : List Step) → IsInterleaving s L → (at : ℕ) → IsInterleaving s (followed_up s O L at)
follow_ups_fit s O opening L steps at =
    fit_onto s (follow_ups s O L at) L
    (of_originators_fit s at (λ p. live_transfers p (history s O L p)) (participants s) (omega arith)
    (λ p k x there. to_participant s p (history s O L p) k x ((together s O opening L steps).sound p) there))
    steps

-- a hub can have gone through this
record IsOfAHub (past : HubPast) : Type 0 where
  opening : IsOpening past.settings past.opening
  steps : IsInterleaving past.settings past.steps

command_of_a_hub : (past : HubPast) (read : Result AskValue Fault) → IfOk read (λ ask. ask_fits past.settings ask ≡ true) → IsOfAHub past → IsOfAHub (after_command past read)
command_of_a_hub past (Ok ask) fits is = record {
  opening = is.opening;
  steps = follow_ups_fit past.settings past.opening is.opening (Ask ask ∷ past.steps) (fits, is.steps) ask.at;
}
command_of_a_hub past (Err fault) fits is = is

script_of_a_hub : (past : HubPast) (read : Result Step Fault) → IfOk read (λ step. step_fits past.settings step ≡ true) → IsOfAHub past → IsOfAHub (after_script past read)
script_of_a_hub past (Ok step) fits is = record { opening = is.opening; steps = (fits, is.steps) }
script_of_a_hub past (Err fault) fits is = is

line_of_a_hub : (mode : Mode) (past : HubPast) (line : List ℕ) → IsOfAHub past → IsOfAHub (after_line mode past line)
unfolding after_line
line_of_a_hub Run past line is = command_of_a_hub past (command_of_line past.settings line) (ask_of_line_fits past.settings line) is
line_of_a_hub Play past line is = script_of_a_hub past (step_of_line past.settings line) (step_of_line_fits past.settings line) is

lines_of_a_hub : (mode : Mode) (past : HubPast) (lines : List (List ℕ)) → IsOfAHub past → IsOfAHub (state_after (hub_answerer mode) past lines)
lines_of_a_hub mode past [] is = is
lines_of_a_hub mode past (line ∷ lines) is =
    lines_of_a_hub mode (state_after_line (hub_answerer mode) past line) lines
    (unless_long IsOfAHub (is_too_long line) past (after_line mode past line) is (line_of_a_hub mode past line is))

-- what a hub has gone through is a run
run_behind : (past : HubPast) → IsOfAHub past → IsRun past.settings (run_through past)
run_behind past is =
    let twice : reverse (reverse past.steps) ≡ past.steps = reverse-reverse past.steps in
    record {
      opens = is.opening;
      fits = subst (λ (L : List Step). IsInterleaving past.settings L) (sym twice) is.steps;
      journals_are = λ p one.
          ap (λ (b : Bool). if b then history past.settings past.opening past.steps p else []) one
          ∙ ap (λ (L : List Step). history past.settings past.opening L p) (sym twice);
      nobody_else = λ p none. ap (λ (b : Bool). if b then history past.settings past.opening past.steps p else []) none;
      answers_are = ap (λ (L : List Step). trace past.settings past.opening L) (sym twice);
    }

pub lines_keep : (mode : Mode) (past : HubPast) → IsOpening past.settings past.opening → IsInterleaving past.settings past.steps → (lines : List (List ℕ))
    → KeepsTheHeadline past.settings (run_through (state_after (hub_answerer mode) past lines))
lines_keep mode past opening steps lines =
    let later : HubPast = state_after (hub_answerer mode) past lines in
    keeps_the_headline past.settings (run_through later)
    (subst (λ (t : HubSettings). IsRun t (run_through later)) (lines_extend mode past lines).settings_are
    (run_behind later (lines_of_a_hub mode past lines (record { opening = opening; steps = steps }))))

-- so of any lines at a hub that opens for the first time
pub opened_keep : (mode : Mode) (s : HubSettings) (o : Option (List ℕ)) (lines_in : List ℕ → List (List ℕ)) → IfSome o (λ bytes. LinesKeepTheHeadline (hub_answerer mode) s (lines_in bytes))
opened_keep mode s (Some bytes) lines_in = lines_keep mode (new_past s) tt tt (lines_in bytes)
opened_keep mode s None lines_in = tt
