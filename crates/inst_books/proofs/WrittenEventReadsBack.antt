-- What is written of an event reads back as the event.
use Rattle.std.proofs.Common.{◌≡◌, ℕ, ◌+◌, ◌<◌, ◌≤◌, ◌^◌, true, ◌&&◌, List, [], ◌∷◌, take, Some, Result, Ok, Err, refl, sym, ap, ◌∙◌, arith}
use Rattle.std.proofs.lemmas.Bool.{and_parts}
use Rattle.std.proofs.lemmas.Bool.Decides.{nat_tests}
use Rattle.std.proofs.lemmas.Str.{IsUtf8-from_ascii}
use Rattle.std.specs.List.{list_all}
use Rattle.std.specs.Str.{IsUtf8}
use Rattle.json.proofs.Printed.Decimals.{IsNumber-decimal}
use Rattle.serde_json.specs.Read.{read}
use Rattle.serde_json.proofs.Numbers.{number_of-decimal}
use Rattle.serde_json.proofs.OnLiterals.{serde_json_on_literals}
use Rattle.inst_base.specs.Cents.{is_amount}
use Rattle.inst_base.specs.Moment.{is_moment}
use Rattle.inst_base.specs.Text.{is_identifier}
use Rattle.inst_base.proofs.TextsAreAscii.{IsAscii-from_each}
use Rattle.inst_settings.specs.Settings.{HubSettings}
use Rattle.inst_command.specs.Ask.{is_count}
use Rattle.inst_command.specs.declared.outcome.Outcome.TheVariants.{Accepted, Rejected, TimedOut}
use Rattle.inst_journal.specs.declared.event.Event.{Event}
use Rattle.inst_journal.specs.declared.event.Event.TheVariants.{Funded, Defunded, Taken, Forwarded, Booked, Fetched, Opened}
use Rattle.inst_json.specs.LineFields.{fields_of}
use Rattle.inst_json.specs.Refusals.{◌>>=◌}
use Rattle.inst_json.proofs.LineAsJson.{json_of-value}
use Rattle.inst_json.proofs.ReplyReadsBack.{ReadsBack, from_parts}
use Rattle.inst_base.specs.Newline.{NoNewline}
use Rattle.inst_books.specs.Events.{event_data, event_line, event_can_be_written}
use Rattle.inst_books.specs.declared.fault.BookFault.{BookFault}
use Rattle.inst_books.specs.Reading.{Entry, or_bad_line, event_of_line, entry_of_line, entry_in}
use Rattle.inst_json.specs.Members.{is_printable}
use Rattle.inst_books.specs.Laws.{event_has_form, IsEventOf, IsPlainLine, IsSameEntry}
use Rattle.inst_books.proofs.EventLineIsPrintable.{line_printable}
use Rattle.inst_books.proofs.Entries.{entry_again}

-- ---- numbers of 64 bits

amount_small : (cents : ℕ) → is_amount cents ≡ true → cents < 2 ^ 64
amount_small cents h = grind (arith, nat_tests)

moment_small : (base moment : ℕ) → base ≤ 2 ^ 62 → is_moment moment ≡ true → base + moment < 2 ^ 64
moment_small base moment low h = grind (arith, nat_tests)

count_small : (count : ℕ) → is_count count ≡ true → count < 2 ^ 64
count_small count h = grind (arith, nat_tests)

-- ---- the object

module _ (s : HubSettings) (who : ℕ) (low : s.base ≤ 2 ^ 62) where
  data_reads : (event : Event) → event_can_be_written s event ≡ true → event_has_form event ≡ true → ReadsBack (event_data s who event)
  unfolding serde_json_on_literals
  data_reads (Funded funding) writable form =
      let small = amount_small funding.cents (and_parts (is_identifier funding.reference) (is_amount funding.cents) form).1 in
      record { numbers = (tt, (IsNumber-decimal funding.cents small, (tt, (tt, tt)))); again = rw (number_of-decimal funding.cents small) refl; shallow = omega arith }
  data_reads (Defunded funding) writable form =
      let small = amount_small funding.cents (and_parts (is_identifier funding.reference) (is_amount funding.cents) form).1 in
      record { numbers = (tt, (IsNumber-decimal funding.cents small, (tt, (tt, tt)))); again = rw (number_of-decimal funding.cents small) refl; shallow = omega arith }
  data_reads (Taken id to cents stamp) writable form =
      let parts = and_parts (is_identifier id && is_amount cents) (is_moment stamp) form in
      let small = amount_small cents (and_parts (is_identifier id) (is_amount cents) parts.0).1 in
      let soon = moment_small s.base stamp low parts.1 in
      record {
        numbers = (tt, (IsNumber-decimal cents small, (tt, (tt, (IsNumber-decimal (s.base + stamp) soon, (tt, tt))))));
        again = rw (number_of-decimal cents small, number_of-decimal (s.base + stamp) soon) refl;
        shallow = omega arith;
      }
  data_reads (Forwarded from id cents deadline) writable form =
      let parts = and_parts (is_identifier id && is_amount cents) (is_moment deadline) form in
      let small = amount_small cents (and_parts (is_identifier id) (is_amount cents) parts.0).1 in
      let soon = moment_small s.base deadline low parts.1 in
      record {
        numbers = (tt, (IsNumber-decimal cents small, (IsNumber-decimal (s.base + deadline) soon, (tt, (tt, (tt, tt))))));
        again = rw (number_of-decimal cents small, number_of-decimal (s.base + deadline) soon) refl;
        shallow = omega arith;
      }
  data_reads (Booked from id Accepted) writable form = record { numbers = (tt, (tt, (tt, (tt, (tt, tt))))); again = refl; shallow = omega arith }
  data_reads (Booked from id (Rejected reason)) writable form = record { numbers = (tt, (tt, (tt, (tt, (tt, (tt, tt)))))); again = refl; shallow = omega arith }
  data_reads (Booked from id TimedOut) writable form = record { numbers = (tt, (tt, (tt, (tt, (tt, tt))))); again = refl; shallow = omega arith }
  data_reads (Fetched count) writable form =
      let small = count_small count writable in
      record { numbers = (tt, (IsNumber-decimal count small, (tt, tt))); again = rw (number_of-decimal count small) refl; shallow = omega arith }
  data_reads Opened writable form = record { numbers = (tt, (tt, tt)); again = refl; shallow = omega arith }

-- ---- the line

printable_low : (x : ℕ) → is_printable x ≡ true → x < 128
printable_low x h = grind (arith, nat_tests)

utf8 : (line : List ℕ) → list_all is_printable line ≡ true → IsUtf8 line
utf8 line h = IsUtf8-from_ascii line (IsAscii-from_each is_printable printable_low line h)

pub line_reads_back : (s : HubSettings) (who : ℕ) (event : Event) → IsEventOf s who event → event_of_line s (event_line s who event) ≡ Ok (who, event)
unfolding event_line entry_of_line
line_reads_back s who event h =
    let line : List ℕ = event_line s who event in
    let back : read line ≡ Some (event_data s who event) = from_parts (event_data s who event) (data_reads s who h.settings.base_most event h.writable h.form) in
    let value = json_of-value line (event_data s who event) (utf8 line (line_printable s who h.codes h.book event h.writable h.form)) back in
    ap (λ r. or_bad_line (r >>= (λ d. entry_in s (fields_of d)))) (sym value) ∙ ap or_bad_line (entry_again s who h.settings h.codes h.book event h.writable h.form)

quiet_byte : (x : ℕ) → is_printable x ≡ true → x ≡ 10 → ⊥
quiet_byte x h is = grind (arith, nat_tests)

pub quiet : (line : List ℕ) → list_all is_printable line ≡ true → NoNewline line
quiet [] h = tt
quiet (x ∷ line) h =
    let parts = and_parts (is_printable x) (list_all is_printable line) h in
    (quiet_byte x parts.0, quiet line parts.1)

begins : (s : HubSettings) (who : ℕ) (event : Event) → take 1 (event_line s who event) ≡ 123 ∷ []
unfolding event_line
begins s who (Funded funding) = refl
begins s who (Defunded funding) = refl
begins s who (Taken id to cents stamp) = refl
begins s who (Forwarded from id cents deadline) = refl
begins s who (Booked from id Accepted) = refl
begins s who (Booked from id (Rejected reason)) = refl
begins s who (Booked from id TimedOut) = refl
begins s who (Fetched count) = refl
begins s who Opened = refl

pub plain_line : (s : HubSettings) (who : ℕ) (event : Event) → IsEventOf s who event → IsPlainLine (event_line s who event)
plain_line s who event h =
    let printable = line_printable s who h.codes h.book event h.writable h.form in
    record { begins = begins s who event; quiet = quiet (event_line s who event) printable; printable = printable }

abbrev entry_or : Entry → Result Entry BookFault → Entry
entry_or other (Ok entry) = entry
entry_or other (Err fault) = other

pub line_tells : (s : HubSettings) (who other : ℕ) (a b : Event) → IsEventOf s who a → IsEventOf s other b → event_line s who a ≡ event_line s other b → IsSameEntry who a other b
line_tells s who other a b of_a of_b same =
    let entries = sym (line_reads_back s who a of_a) ∙ ap (event_of_line s) same ∙ line_reads_back s other b of_b in
    record { book = ap (λ r. (entry_or (who, a) r).0) entries; event = ap (λ r. (entry_or (who, a) r).1) entries }
