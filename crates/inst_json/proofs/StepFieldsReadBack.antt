-- The fields of a step's line are read as the step.
use Rattle.std.proofs.Common.{◌≡◌, ℕ, ◌+◌, ◌<◌, true, ◌&&◌, nat_lt, nat_le, [], List, length, Ok, Err, ok_or, refl, sym, ap, ◌∙◌, arith, if◌then◌else◌}
use Rattle.std.proofs.lemmas.Bool.{and_parts}
use Rattle.std.proofs.lemmas.Bool.Decides.{nat_tests}
use Rattle.std.proofs.lemmas.Option.{unwrap_or-slice_get}
use Rattle.serde_json.specs.Data.{object}
use Rattle.inst_base.specs.Cents.{is_amount}
use Rattle.inst_base.specs.Moment.{is_moment, moment_of}
use Rattle.inst_base.specs.TimeLimit.{deadline_of}
use Rattle.inst_base.specs.Text.{is_identifier, identifier_of, is_reason}
use Rattle.inst_base.specs.declared.fault.Fault.TheVariants.{BadField, BadIdentifier, BadAmount, UnknownParticipant}
use Rattle.inst_settings.specs.Settings.{HubSettings, is_participant, is_within_ceiling}
use Rattle.inst_settings.specs.Lawful.{IsSettings}
use Rattle.inst_settings.specs.declared.ranges.TheConstants.{MOST_PLACES}
use Rattle.inst_settings.proofs.CodesKnownByHolders.{number_known}
use Rattle.inst_command.specs.Ask.{is_count, command_fits, ask_fits}
use Rattle.inst_command.specs.LineText.{code_numbered}
use Rattle.inst_command.specs.Step.{step_fits}
use Rattle.inst_command.specs.declared.ask.Ask.{Ask}
use Rattle.inst_command.specs.declared.command.Command.{Command}
use Rattle.inst_command.specs.declared.command.Command.TheVariants as command
use Rattle.inst_command.specs.declared.query.Query.TheVariants as query
use Rattle.inst_command.specs.declared.step.Step.{Step}
use Rattle.inst_command.specs.declared.step.Step.TheVariants as step
use Rattle.inst_json.specs.LineFields.{LineFields, fields_of, missing, text, whole}
use Rattle.inst_json.specs.Asker.{asker_of, known_of}
use Rattle.inst_json.specs.Checks.{amount_of, stamp_of, participant_of}
use Rattle.inst_json.specs.Commands.{funding_of, submit_of, received_of, reject_of, investigate_of, fetch_of, statement_of, command_of, ask_of}
use Rattle.inst_json.specs.Fields.{code_in, reason_in, count_in, place_in, is_there}
use Rattle.inst_json.specs.Laws.{has_code, command_has_form, ask_has_form, step_has_form, has_place}
use Rattle.inst_json.specs.Refusals.{◌>>=◌}
use Rattle.inst_json.specs.Replies.{members}
use Rattle.inst_json.specs.StepLines.{ask_rows, step_data}
use Rattle.inst_json.specs.Steps.{passing_of, deliver_of, learn_of, expire_of, move_of, asked_of, step_of}
use Rattle.inst_json.specs.Verb.{verb_of, verb_in}
use Rattle.inst_json.specs.declared.asker.Asker.{Asker}
use Rattle.inst_json.proofs.ReplyTextTellsReply.{past_base}

-- ---- what a field holds

reason_again : (reason : List ℕ) → is_reason reason ≡ true → reason_in (text reason) ≡ Ok reason
unfolding reason_in
reason_again reason h = ap (λ b. if b then Ok reason else Err BadField) h

count_again : (count : ℕ) → is_count count ≡ true → count_in (whole count) ≡ Ok count
unfolding count_in
count_again count h = ap (λ b. if b then Ok count else Err BadField) h

place_again : (place : ℕ) → nat_lt place MOST_PLACES ≡ true → place_in (whole place) ≡ Ok place
unfolding place_in
place_again place h = ap (λ b. if b then Ok place else Err BadField) h

identifier_again : (id : List ℕ) → is_identifier id ≡ true → identifier_of id ≡ Ok id
identifier_again id h = ap (λ b. if b then Ok id else Err BadIdentifier) h

code_again : (s : HubSettings) (i : ℕ) → has_code s i ≡ true → code_in (text (code_numbered s i)) ≡ Ok (code_numbered s i)
unfolding code_in
code_again s i h = ap (λ b. if b then Ok (code_numbered s i) else Err BadField) h

-- ---- what it stands for

amount_again : (s : HubSettings) (cents : ℕ) → is_within_ceiling s cents ≡ true → amount_of s cents ≡ Ok cents
unfolding amount_of
amount_again s cents h = ap (λ b. if b then Ok cents else Err BadAmount) h

not_below : (base moment : ℕ) → nat_le base (base + moment) ≡ true
not_below base moment = grind (arith, nat_tests)

moment_again : (base moment : ℕ) → is_moment moment ≡ true → moment_of base (base + moment) ≡ Ok moment
moment_again base moment h = rw (past_base base moment, not_below base moment, h) refl

-- a time stamp with a deadline is a moment
pub stamp_moment : (limit stamp : ℕ) → is_moment (deadline_of limit stamp) ≡ true → is_moment stamp ≡ true
stamp_moment limit stamp h = grind (arith, nat_tests)

stamp_again : (s : HubSettings) (stamp : ℕ) → is_moment (deadline_of s.limit stamp) ≡ true → stamp_of s (s.base + stamp) ≡ Ok stamp
unfolding stamp_of
stamp_again s stamp h = rw (moment_again s.base stamp (stamp_moment s.limit stamp h), h) refl

below_all : (i n : ℕ) → nat_lt i n ≡ true → i < n
below_all i n h = grind (arith, nat_tests)

-- a participant's code tells its number
pub code_tells : (s : HubSettings) (i : ℕ) → IsSettings s → is_participant s i ≡ true → participant_of s (code_numbered s i) ≡ Ok i
unfolding participant_of
code_tells s i lawful known =
    ap (λ o. ok_or o UnknownParticipant) (sym (number_known s.codes (code_numbered s i) i lawful.different (below_all i (length s.codes) known) (sym (unwrap_or-slice_get s.codes i []))))

-- ---- asks

module _ (s : HubSettings) (lawful : IsSettings s) where
  -- who asks and when, as a line has it
  abbrev asker_said : ℕ → ℕ → Asker
  asker_said who at = record { who = code_numbered s who; at = s.base + at }

  known_again : (who at : ℕ) → is_participant s who ≡ true → is_moment at ≡ true → known_of s (asker_said who at) ≡ Ok (record { who = who; at = at })
  unfolding known_of
  known_again who at known moment = rw (moment_again s.base at moment, code_tells s who lawful known) refl

  pub ask_again : (who at : ℕ) (c : Command) → is_participant s who ≡ true → has_code s who ≡ true → is_moment at ≡ true → command_fits s c ≡ true → command_has_form s c ≡ true
      → ask_of s (fields_of (object (members (ask_rows s (record { who = who; command = c; at = at }))))) ≡ Ok (record { who = who; command = c; at = at })
  unfolding ask_of asker_of command_of verb_in verb_of funding_of submit_of received_of reject_of investigate_of fetch_of statement_of
  ask_again who at (command.Fund funding) known coded moment fits form =
      let parts = and_parts (is_identifier funding.reference) (is_amount funding.cents) form in
      rw (code_again s who coded, identifier_again funding.reference parts.0, amount_again s funding.cents fits, known_again who at known moment) refl
  ask_again who at (command.Defund funding) known coded moment fits form =
      let parts = and_parts (is_identifier funding.reference) (is_amount funding.cents) form in
      rw (code_again s who coded, identifier_again funding.reference parts.0, amount_again s funding.cents fits, known_again who at known moment) refl
  ask_again who at (command.Submit x) known coded moment fits form =
      let parts = and_parts (has_code s x.to && is_identifier x.id) (is_amount x.cents) form in
      let texts = and_parts (has_code s x.to) (is_identifier x.id) parts.0 in
      let outer = and_parts (is_participant s x.to && is_within_ceiling s x.cents) (is_moment (deadline_of s.limit x.stamp)) fits in
      let inner = and_parts (is_participant s x.to) (is_within_ceiling s x.cents) outer.0 in
      rw (code_again s who coded, code_again s x.to texts.0, identifier_again x.id texts.1, amount_again s x.cents inner.1, stamp_again s x.stamp outer.1, known_again who at known moment, code_tells s x.to lawful inner.0) refl
  ask_again who at (command.Confirm from id) known coded moment fits form =
      let parts = and_parts (has_code s from) (is_identifier id) form in
      rw (code_again s who coded, code_again s from parts.0, identifier_again id parts.1, known_again who at known moment, code_tells s from lawful fits) refl
  ask_again who at (command.Reject from id reason) known coded moment fits form =
      let outer = and_parts (has_code s from && is_identifier id) (is_reason reason) form in
      let parts = and_parts (has_code s from) (is_identifier id) outer.0 in
      rw (code_again s who coded, reason_again reason outer.1, code_again s from parts.0, identifier_again id parts.1, known_again who at known moment, code_tells s from lawful fits) refl
  ask_again who at (command.Investigate id) known coded moment fits form =
      rw (code_again s who coded, identifier_again id form, known_again who at known moment) refl
  ask_again who at (command.Fetch max) known coded moment fits form =
      rw (code_again s who coded, count_again max fits, known_again who at known moment) refl
  ask_again who at (command.Query query.Position) known coded moment fits form =
      rw (code_again s who coded, known_again who at known moment) refl
  ask_again who at (command.Query (query.Statement skip count)) known coded moment fits form =
      rw (code_again s who coded, count_again count fits, known_again who at known moment) refl

  -- ---- steps

  -- the line of an ask has no field `step`
  no_step : (who at : ℕ) (c : Command) → (fields_of (object (members (ask_rows s (record { who = who; command = c; at = at }))))).step ≡ missing
  no_step who at (command.Fund funding) = refl
  no_step who at (command.Defund funding) = refl
  no_step who at (command.Submit x) = refl
  no_step who at (command.Confirm from id) = refl
  no_step who at (command.Reject from id reason) = refl
  no_step who at (command.Investigate id) = refl
  no_step who at (command.Fetch max) = refl
  no_step who at (command.Query query.Position) = refl
  no_step who at (command.Query (query.Statement skip count)) = refl

  without_step : (line : LineFields) (ask : Ask) → line.step ≡ missing → ask_of s line ≡ Ok ask → step_of s line ≡ Ok (step.Ask ask)
  unfolding step_of asked_of
  without_step line ask none is =
      let asked = λ (found : Ask). Ok (step.Ask found) in
      ap (λ f. if is_there f then move_of s line else asked_of s line) none ∙ ap (λ r. r >>= asked) is

  asked_again : (ask : Ask) → ask_fits s ask ≡ true → ask_has_form s ask ≡ true → step_of s (fields_of (step_data s (step.Ask ask))) ≡ Ok (step.Ask ask)
  asked_again ask fits form =
      let known = and_parts (is_participant s ask.who) (command_fits s ask.command) fits in
      let outer = and_parts (has_code s ask.who && is_moment ask.at) (command_has_form s ask.command) form in
      let coded = and_parts (has_code s ask.who) (is_moment ask.at) outer.0 in
      without_step (fields_of (step_data s (step.Ask ask))) ask (no_step ask.who ask.at ask.command) (ask_again ask.who ask.at ask.command known.0 coded.0 coded.1 known.1 outer.1)

  pub step_again : (x : Step) → step_fits s x ≡ true → step_has_form s x ≡ true → has_place x ≡ true → step_of s (fields_of (step_data s x)) ≡ Ok x
  unfolding step_of move_of deliver_of learn_of expire_of passing_of asker_of
  step_again (step.Ask ask) fits form place = asked_again ask fits form
  step_again (step.Deliver from index to) fits form place =
      let known = and_parts (is_participant s from) (is_participant s to) fits in
      let coded = and_parts (has_code s to) (has_code s from) form in
      rw (code_again s to coded.0, code_again s from coded.1, place_again index place, code_tells s to lawful known.1, code_tells s from lawful known.0) refl
  step_again (step.Learn who from index) fits form place =
      let known = and_parts (is_participant s who) (is_participant s from) fits in
      let coded = and_parts (has_code s who) (has_code s from) form in
      rw (code_again s who coded.0, code_again s from coded.1, place_again index place, code_tells s who lawful known.0, code_tells s from lawful known.1) refl
  step_again (step.Expire who index at) fits form place =
      let coded = and_parts (has_code s who) (is_moment at) form in
      rw (code_again s who coded.0, place_again index place, known_again who at fits coded.1) refl
