-- What the object of an event says is the event.
use Rattle.std.proofs.Common.{◌≡◌, ℕ, ◌+◌, true, nat_le, ◌&&◌, List, Ok, Err, refl, ap, arith, if◌then◌else◌}
use Rattle.std.proofs.lemmas.Bool.{and_parts}
use Rattle.std.proofs.lemmas.Bool.Decides.{nat_tests}
use Rattle.std.specs.List.{list_all}
use Rattle.inst_base.specs.Cents.{is_amount}
use Rattle.inst_base.specs.Moment.{is_moment}
use Rattle.inst_base.specs.Text.{is_code, is_identifier, is_reason}
use Rattle.inst_base.specs.declared.fault.Fault.TheVariants.{BadField, BadIdentifier, BadAmount}
use Rattle.inst_settings.specs.Settings.{HubSettings, is_participant}
use Rattle.inst_settings.specs.Lawful.{IsSettings}
use Rattle.inst_command.specs.Ask.{is_count}
use Rattle.inst_command.specs.LineText.{code_numbered}
use Rattle.inst_command.specs.declared.outcome.Outcome.{Outcome}
use Rattle.inst_command.specs.declared.outcome.Outcome.TheVariants.{Accepted, Rejected, TimedOut}
use Rattle.inst_journal.specs.declared.event.Event.{Event}
use Rattle.inst_journal.specs.declared.event.Event.TheVariants.{Funded, Defunded, Taken, Forwarded, Booked, Fetched, Opened}
use Rattle.inst_json.specs.LineFields.{text, whole, fields_of}
use Rattle.inst_json.specs.Fields.{code_in, reason_in, count_in}
use Rattle.inst_books.specs.Events.{event_data, outcome_data, event_can_be_written}
use Rattle.inst_books.specs.Reading.{identifier_in, amount_in, moment_in, participant_in, outcome_in, funded_in, defunded_in, taken_in, forwarded_in, booked_in, fetched_in, entry_in}
use Rattle.inst_books.specs.Laws.{event_has_form, outcome_has_form}
use Rattle.inst_books.proofs.ParticipantCodes.{code_has_form, code_tells}
use Rattle.inst_json.proofs.ReplyTextTellsReply.{past_base}

-- ---- what stands under a name

identifier_again : (id : List ℕ) → is_identifier id ≡ true → identifier_in (text id) ≡ Ok id
unfolding identifier_in
identifier_again id h = ap (λ b. if b then Ok id else Err BadIdentifier) h

amount_again : (cents : ℕ) → is_amount cents ≡ true → amount_in (whole cents) ≡ Ok cents
unfolding amount_in
amount_again cents h = ap (λ b. if b then Ok cents else Err BadAmount) h

not_below : (base moment : ℕ) → nat_le base (base + moment) ≡ true
not_below base moment = grind (arith, nat_tests)

moment_again : (s : HubSettings) (moment : ℕ) → is_moment moment ≡ true → moment_in s (whole (s.base + moment)) ≡ Ok moment
unfolding moment_in
moment_again s moment h = rw (past_base s.base moment, not_below s.base moment, h) refl

participant_again : (s : HubSettings) (i : ℕ) → IsSettings s → list_all is_code s.codes ≡ true → is_participant s i ≡ true → participant_in s (text (code_numbered s i)) ≡ Ok i
unfolding participant_in code_in
participant_again s i lawful all known = rw (code_has_form s i all known) (code_tells s i lawful known)

reason_again : (reason : List ℕ) → is_reason reason ≡ true → reason_in (text reason) ≡ Ok reason
unfolding reason_in
reason_again reason h = ap (λ b. if b then Ok reason else Err BadField) h

count_again : (count : ℕ) → is_count count ≡ true → count_in (whole count) ≡ Ok count
unfolding count_in
count_again count h = ap (λ b. if b then Ok count else Err BadField) h

-- ---- the events

outcome_again : (book from id : List ℕ) (outcome : Outcome) → outcome_has_form outcome ≡ true → outcome_in (fields_of (outcome_data book from id outcome)) ≡ Ok outcome
unfolding outcome_in
outcome_again book from id Accepted h = refl
outcome_again book from id (Rejected reason) h = rw (reason_again reason h) refl
outcome_again book from id TimedOut h = refl

module _ (s : HubSettings) (who : ℕ) (lawful : IsSettings s) (all : list_all is_code s.codes ≡ true) (known : is_participant s who ≡ true) where
  at_book : participant_in s (text (code_numbered s who)) ≡ Ok who
  at_book = participant_again s who lawful all known

  pub entry_again : (event : Event) → event_can_be_written s event ≡ true → event_has_form event ≡ true → entry_in s (fields_of (event_data s who event)) ≡ Ok (who, event)
  unfolding entry_in funded_in defunded_in taken_in forwarded_in booked_in fetched_in
  entry_again (Funded funding) writable form =
      let parts = and_parts (is_identifier funding.reference) (is_amount funding.cents) form in
      rw (at_book, identifier_again funding.reference parts.0, amount_again funding.cents parts.1) refl
  entry_again (Defunded funding) writable form =
      let parts = and_parts (is_identifier funding.reference) (is_amount funding.cents) form in
      rw (at_book, identifier_again funding.reference parts.0, amount_again funding.cents parts.1) refl
  entry_again (Taken id to cents stamp) writable form =
      let parts = and_parts (is_identifier id && is_amount cents) (is_moment stamp) form in
      let first = and_parts (is_identifier id) (is_amount cents) parts.0 in
      rw (at_book, identifier_again id first.0, participant_again s to lawful all writable, amount_again cents first.1, moment_again s stamp parts.1) refl
  entry_again (Forwarded from id cents deadline) writable form =
      let parts = and_parts (is_identifier id && is_amount cents) (is_moment deadline) form in
      let first = and_parts (is_identifier id) (is_amount cents) parts.0 in
      rw (at_book, participant_again s from lawful all writable, identifier_again id first.0, amount_again cents first.1, moment_again s deadline parts.1) refl
  entry_again (Booked from id Accepted) writable form =
      let parts = and_parts (is_identifier id) (outcome_has_form Accepted) form in
      rw (at_book, participant_again s from lawful all writable, identifier_again id parts.0, outcome_again (code_numbered s who) (code_numbered s from) id Accepted parts.1) refl
  entry_again (Booked from id (Rejected reason)) writable form =
      let parts = and_parts (is_identifier id) (outcome_has_form (Rejected reason)) form in
      rw (at_book, participant_again s from lawful all writable, identifier_again id parts.0, outcome_again (code_numbered s who) (code_numbered s from) id (Rejected reason) parts.1) refl
  entry_again (Booked from id TimedOut) writable form =
      let parts = and_parts (is_identifier id) (outcome_has_form TimedOut) form in
      rw (at_book, participant_again s from lawful all writable, identifier_again id parts.0, outcome_again (code_numbered s who) (code_numbered s from) id TimedOut parts.1) refl
  entry_again (Fetched count) writable form = rw (at_book, count_again count writable) refl
  entry_again Opened writable form = rw at_book refl
