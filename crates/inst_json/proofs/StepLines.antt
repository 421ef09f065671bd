-- What is written of a step is read as the step.
use Rattle.std.proofs.Common.{◌≡◌, ℕ, ◌+◌, ◌<◌, ◌≤◌, ◌^◌, true, ◌&&◌, nat_lt, List, Some, Ok, refl, sym, ap, ◌∙◌, arith}
use Rattle.std.proofs.lemmas.Bool.{and_parts}
use Rattle.std.proofs.lemmas.Bool.Decides.{nat_tests}
use Rattle.std.proofs.lemmas.Str.{IsUtf8-from_ascii}
use Rattle.std.specs.Str.{IsUtf8}
use Rattle.serde_json.specs.Read.{read}
use Rattle.inst_base.proofs.TextsAreAscii.{IsAscii-from_each}
use Rattle.inst_base.specs.Cents.{is_amount}
use Rattle.inst_base.specs.Moment.{is_moment}
use Rattle.inst_base.specs.TimeLimit.{deadline_of}
use Rattle.inst_base.specs.Text.{is_identifier, is_reason}
use Rattle.inst_settings.specs.Settings.{HubSettings, is_participant, is_within_ceiling}
use Rattle.inst_settings.specs.Lawful.{IsSettings}
use Rattle.inst_settings.specs.declared.ranges.TheConstants.{MOST_PLACES}
use Rattle.inst_command.specs.Ask.{is_count, command_fits}
use Rattle.inst_command.specs.LineText.{code_numbered}
use Rattle.inst_command.specs.Step.{step_fits}
use Rattle.inst_command.specs.declared.command.Command.{Command}
use Rattle.inst_command.specs.declared.command.Command.TheVariants as command
use Rattle.inst_command.specs.declared.query.Query.TheVariants as query
use Rattle.inst_command.specs.declared.step.Step.{Step}
use Rattle.inst_command.specs.declared.step.Step.TheVariants as step
use Rattle.inst_json.specs.LineFields.{fields_of}
use Rattle.inst_json.specs.Laws.{is_word, has_code, command_has_form, step_has_form, has_place, IsStepOf}
use Rattle.inst_json.specs.Lines.{blamed_step_of_line, step_of_line}
use Rattle.inst_json.specs.Members.{is_printable, is_plain}
use Rattle.inst_json.specs.Refusals.{◌>>=◌, as_whole, by_fault}
use Rattle.inst_json.specs.StepLines.{ask_rows, step_rows, step_data, step_line}
use Rattle.inst_json.specs.Steps.{step_of}
use Rattle.inst_json.proofs.StepFieldsReadBack.{stamp_moment, step_again}
use Rattle.inst_json.proofs.LineAsJson.{json_of-value}
use Rattle.inst_json.proofs.TextsWithoutEscapes.{plain_identifier, plain_code, plain_reason}
use Rattle.inst_json.proofs.Tables.{Printable, ArePlain, AreWords, AreSorted, line_printable, line_reads}

-- ---- the members of a step

command_sorted : (s : HubSettings) (who at : ℕ) (c : Command) → AreSorted (ask_rows s (record { who = who; command = c; at = at }))
command_sorted s who at (command.Fund funding) = refl
command_sorted s who at (command.Defund funding) = refl
command_sorted s who at (command.Submit x) = refl
command_sorted s who at (command.Confirm from id) = refl
command_sorted s who at (command.Reject from id reason) = refl
command_sorted s who at (command.Investigate id) = refl
command_sorted s who at (command.Fetch max) = refl
command_sorted s who at (command.Query query.Position) = refl
command_sorted s who at (command.Query (query.Statement skip count)) = refl

rows_sorted : (s : HubSettings) (x : Step) → AreSorted (step_rows s x)
rows_sorted s (step.Ask ask) = command_sorted s ask.who ask.at ask.command
rows_sorted s (step.Deliver from index to) = refl
rows_sorted s (step.Learn who from index) = refl
rows_sorted s (step.Expire who index at) = refl

-- ---- its texts are plain

code_plain : (s : HubSettings) (i : ℕ) → has_code s i ≡ true → is_plain (code_numbered s i) ≡ true
code_plain s i h = plain_code (code_numbered s i) h

command_plain : (s : HubSettings) (who at : ℕ) (c : Command) → has_code s who ≡ true → command_has_form s c ≡ true → ArePlain (ask_rows s (record { who = who; command = c; at = at }))
command_plain s who at (command.Fund funding) coded form =
    rw (plain_identifier funding.reference (and_parts (is_identifier funding.reference) (is_amount funding.cents) form).0, code_plain s who coded) refl
command_plain s who at (command.Defund funding) coded form =
    rw (plain_identifier funding.reference (and_parts (is_identifier funding.reference) (is_amount funding.cents) form).0, code_plain s who coded) refl
command_plain s who at (command.Submit x) coded form =
    let outer = and_parts (has_code s x.to && is_identifier x.id) (is_amount x.cents) form in
    let parts = and_parts (has_code s x.to) (is_identifier x.id) outer.0 in
    rw (plain_identifier x.id parts.1, code_plain s x.to parts.0, code_plain s who coded) refl
command_plain s who at (command.Confirm from id) coded form =
    let parts = and_parts (has_code s from) (is_identifier id) form in
    rw (code_plain s from parts.0, plain_identifier id parts.1, code_plain s who coded) refl
command_plain s who at (command.Reject from id reason) coded form =
    let outer = and_parts (has_code s from && is_identifier id) (is_reason reason) form in
    let parts = and_parts (has_code s from) (is_identifier id) outer.0 in
    rw (code_plain s from parts.0, plain_identifier id parts.1, plain_reason reason outer.1, code_plain s who coded) refl
command_plain s who at (command.Investigate id) coded form = rw (plain_identifier id form, code_plain s who coded) refl
command_plain s who at (command.Fetch max) coded form = rw (code_plain s who coded) refl
command_plain s who at (command.Query query.Position) coded form = rw (code_plain s who coded) refl
command_plain s who at (command.Query (query.Statement skip count)) coded form = rw (code_plain s who coded) refl

rows_plain : (s : HubSettings) (x : Step) → step_has_form s x ≡ true → ArePlain (step_rows s x)
rows_plain s (step.Ask ask) form =
    let outer = and_parts (has_code s ask.who && is_moment ask.at) (command_has_form s ask.command) form in
    command_plain s ask.who ask.at ask.command (and_parts (has_code s ask.who) (is_moment ask.at) outer.0).0 outer.1
rows_plain s (step.Deliver from index to) form =
    let parts = and_parts (has_code s to) (has_code s from) form in
    rw (code_plain s from parts.1, code_plain s to parts.0) refl
rows_plain s (step.Learn who from index) form =
    let parts = and_parts (has_code s who) (has_code s from) form in
    rw (code_plain s from parts.1, code_plain s who parts.0) refl
rows_plain s (step.Expire who index at) form = rw (code_plain s who (and_parts (has_code s who) (is_moment at) form).0) refl

-- ---- its numbers have 64 bits

amount_word : (cents : ℕ) → is_amount cents ≡ true → is_word cents ≡ true
amount_word cents h = grind (arith, nat_tests)

moment_word : (base moment : ℕ) → base ≤ 2 ^ 62 → is_moment moment ≡ true → is_word (base + moment) ≡ true
moment_word base moment low h = grind (arith, nat_tests)

count_word : (count : ℕ) → is_count count ≡ true → is_word count ≡ true
count_word count h = grind (arith, nat_tests)

place_word : (place : ℕ) → nat_lt place MOST_PLACES ≡ true → is_word place ≡ true
place_word place h = grind (arith, nat_tests)

module _ (s : HubSettings) (low : s.base ≤ 2 ^ 62) where
  command_words : (who at : ℕ) (c : Command) → is_moment at ≡ true → command_fits s c ≡ true → command_has_form s c ≡ true → AreWords (ask_rows s (record { who = who; command = c; at = at }))
  command_words who at (command.Fund funding) moment fits form =
      rw (moment_word s.base at low moment, amount_word funding.cents (and_parts (is_identifier funding.reference) (is_amount funding.cents) form).1) refl
  command_words who at (command.Defund funding) moment fits form =
      rw (moment_word s.base at low moment, amount_word funding.cents (and_parts (is_identifier funding.reference) (is_amount funding.cents) form).1) refl
  command_words who at (command.Submit x) moment fits form =
      let stamp = stamp_moment s.limit x.stamp (and_parts (is_participant s x.to && is_within_ceiling s x.cents) (is_moment (deadline_of s.limit x.stamp)) fits).1 in
      rw (moment_word s.base at low moment, amount_word x.cents (and_parts (has_code s x.to && is_identifier x.id) (is_amount x.cents) form).1, moment_word s.base x.stamp low stamp) refl
  command_words who at (command.Confirm from id) moment fits form = rw (moment_word s.base at low moment) refl
  command_words who at (command.Reject from id reason) moment fits form = rw (moment_word s.base at low moment) refl
  command_words who at (command.Investigate id) moment fits form = rw (moment_word s.base at low moment) refl
  command_words who at (command.Fetch max) moment fits form = rw (moment_word s.base at low moment, count_word max fits) refl
  command_words who at (command.Query query.Position) moment fits form = rw (moment_word s.base at low moment) refl
  command_words who at (command.Query (query.Statement skip count)) moment fits form = rw (moment_word s.base at low moment, count_word count fits, form) refl

  rows_words : (x : Step) → step_fits s x ≡ true → step_has_form s x ≡ true → has_place x ≡ true → AreWords (step_rows s x)
  rows_words (step.Ask ask) fits form place =
      let outer = and_parts (has_code s ask.who && is_moment ask.at) (command_has_form s ask.command) form in
      let moment = (and_parts (has_code s ask.who) (is_moment ask.at) outer.0).1 in
      command_words ask.who ask.at ask.command moment (and_parts (is_participant s ask.who) (command_fits s ask.command) fits).1 outer.1
  rows_words (step.Deliver from index to) fits form place = rw (place_word index place) refl
  rows_words (step.Learn who from index) fits form place = rw (place_word index place) refl
  rows_words (step.Expire who index at) fits form place =
      rw (moment_word s.base at low (and_parts (has_code s who) (is_moment at) form).1, place_word index place) refl

-- ---- the line

printable_low : (x : ℕ) → is_printable x ≡ true → x < 128
printable_low x h = grind (arith, nat_tests)

utf8 : (line : List ℕ) → Printable line → IsUtf8 line
utf8 line h = IsUtf8-from_ascii line (IsAscii-from_each is_printable printable_low line h)

pub step_printable : (s : HubSettings) (x : Step) → step_has_form s x ≡ true → Printable (step_line s x)
step_printable s x form = line_printable (step_rows s x) (rows_plain s x form)

pub step_reads_back : (s : HubSettings) (x : Step) → IsStepOf s x → step_of_line s (step_line s x) ≡ Ok x
unfolding step_of_line blamed_step_of_line
step_reads_back s x given =
    let line : List ℕ = step_line s x in
    let back : read line ≡ Some (step_data s x) = line_reads (step_rows s x) (rows_words s given.settings.base_most x given.fits given.form given.place) (rows_sorted s x) in
    let value = json_of-value line (step_data s x) (utf8 line (step_printable s x given.form)) back in
    ap (λ r. by_fault (as_whole r >>= (λ d. step_of s (fields_of d)))) (sym value) ∙ ap by_fault (step_again s given.settings x given.fits given.form given.place)

pub step_back : (s : HubSettings) (x : Step) → step_fits s x ≡ true → step_has_form s x ≡ true → IsSettings s → has_place x ≡ true → step_of_line s (step_line s x) ≡ Ok x
step_back s x fits form lawful place = step_reads_back s x (record { settings = lawful; fits = fits; form = form; place = place })
