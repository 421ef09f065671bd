-- What is written of books is read as the books.
use Rattle.std.proofs.Common.{◌≡◌, ℕ, ◌+◌, ◌==◌, ◌<◌, ◌≤◌, true, List, [], ◌∷◌, ◌++◌, length, map, replicate, Result, Ok, Err, refl, sym, ap, ◌∙◌, arith, append_assoc, append-nil, length-append, eq-eqb, if◌then◌else◌}
use Rattle.std.specs.List.{list_all}
use Rattle.std.proofs.lemmas.Bool.{and_parts}
use Rattle.std.proofs.lemmas.Bool.Decides.{nat_tests}
use Rattle.inst_base.specs.Text.{is_code}
use Rattle.inst_settings.specs.Settings.{HubSettings, participants, is_participant}
use Rattle.inst_settings.specs.Lawful.{IsSettings}
use Rattle.inst_journal.specs.declared.event.Event.{Event}
use Rattle.inst_log.specs.Layout.{recovered_lines, blocks}
use Rattle.inst_log.proofs.Lines.{IsLine, AllLines, recovered_blocks}
use Rattle.inst_books.specs.declared.fault.BookFault.{BookFault}
use Rattle.inst_books.specs.declared.fault.BookFault.TheVariants.{BadLine}
use Rattle.inst_books.specs.Events.{event_line, event_can_be_written}
use Rattle.inst_books.specs.Books.{book_lines_from, book_lines, books_text, books_with_event, go_on, with_lines, no_books, books_of_text}
use Rattle.inst_books.specs.Laws.{event_has_form, IsEventOf, IsPlainLine, ArePlainLines, AreLinesOfALog, AreBooksOf}
use Rattle.inst_books.proofs.WrittenEventReadsBack.{line_reads_back, plain_line}

with_event_at : (front : List (List Event)) (book : List Event) (back : List (List Event)) (event : Event) → books_with_event (length front) event (front ++ book ∷ back) ≡ front ++ (book ++ event ∷ []) ∷ back
with_event_at [] book back event = refl
with_event_at (first ∷ front) book back event = ap (λ (books : List (List Event)). first ∷ books) (with_event_at front book back event)

participant_below : (s : HubSettings) (who : ℕ) → who < participants s → is_participant s who ≡ true
participant_below s who h = grind (arith, nat_tests)

abbrev as_ok : List (List Event) → Result (List (List Event)) BookFault
as_ok books = Ok books

module _ (s : HubSettings) (lawful : IsSettings s) (coded : list_all is_code s.codes ≡ true) where
  event_is : (who : ℕ) (event : Event) → is_participant s who ≡ true → event_can_be_written s event ≡ true → event_has_form event ≡ true → IsEventOf s who event
  event_is who event known writable form = record { settings = lawful; codes = coded; book = known; writable = writable; form = form }

  -- ---- reading goes through one book, and then through all

  one_book : (events : List Event) (lines : List (List ℕ)) (front : List (List Event)) (book : List Event) (back : List (List Event)) → is_participant s (length front) ≡ true
      → list_all (event_can_be_written s) events ≡ true → list_all event_has_form events ≡ true
      → with_lines s (map (event_line s (length front)) events ++ lines) (front ++ book ∷ back) ≡ with_lines s lines (front ++ (book ++ events) ∷ back)
  one_book [] lines front book back known writable form = ap (λ (b : List Event). with_lines s lines (front ++ b ∷ back)) (sym (append-nil book))
  one_book (event ∷ events) lines front book back known writable form =
      let can = and_parts (event_can_be_written s event) (list_all (event_can_be_written s) events) writable in
      let has = and_parts (event_has_form event) (list_all event_has_form events) form in
      let others = map (event_line s (length front)) events ++ lines in
      let reads = line_reads_back s (length front) event (event_is (length front) event known can.0 has.0) in
      ap (go_on (with_lines s others) (front ++ book ∷ back)) reads
      ∙ ap (with_lines s others) (with_event_at front book back event)
      ∙ one_book events lines front (book ++ event ∷ []) back known can.1 has.1
      ∙ ap (λ (b : List Event). with_lines s lines (front ++ b ∷ back)) (append_assoc book (event ∷ []) events)

  all_books : (books front : List (List Event)) → length front + length books ≤ participants s
      → list_all (list_all (event_can_be_written s)) books ≡ true → list_all (list_all event_has_form) books ≡ true
      → with_lines s (book_lines_from s (length front) books) (front ++ replicate (length books) []) ≡ Ok (front ++ books)
  all_books [] front few writable form = refl
  all_books (book ∷ books) front few writable form =
      let can = and_parts (list_all (event_can_be_written s) book) (list_all (list_all (event_can_be_written s)) books) writable in
      let has = and_parts (list_all event_has_form book) (list_all (list_all event_has_form) books) form in
      let known = participant_below s (length front) (omega (arith, few)) in
      let rest : List (List Event) = replicate (length books) [] in
      let longer : length (front ++ book ∷ []) ≡ length front + 1 = length-append front (book ∷ []) in
      one_book book (book_lines_from s (length front + 1) books) front [] rest known can.0 has.0
      ∙ ap (λ (n : ℕ). with_lines s (book_lines_from s n books) (front ++ book ∷ rest)) (sym longer)
      ∙ ap (with_lines s (book_lines_from s (length (front ++ book ∷ [])) books)) (sym (append_assoc front (book ∷ []) rest))
      ∙ all_books books (front ++ book ∷ []) (omega (arith, few, longer)) can.1 has.1
      ∙ ap as_ok (append_assoc front (book ∷ []) books)

  -- ---- the lines are plain

  plain_joined : (a b : List (List ℕ)) → ArePlainLines a → ArePlainLines b → ArePlainLines (a ++ b)
  plain_joined [] b pa pb = pb
  plain_joined (line ∷ a) b pa pb = (pa.0, plain_joined a b pa.1 pb)

  plain_book : (who : ℕ) (events : List Event) → is_participant s who ≡ true → list_all (event_can_be_written s) events ≡ true → list_all event_has_form events ≡ true → ArePlainLines (map (event_line s who) events)
  plain_book who [] known writable form = tt
  plain_book who (event ∷ events) known writable form =
      let can = and_parts (event_can_be_written s event) (list_all (event_can_be_written s) events) writable in
      let has = and_parts (event_has_form event) (list_all event_has_form events) form in
      (plain_line s who event (event_is who event known can.0 has.0), plain_book who events known can.1 has.1)

  plain_books : (who : ℕ) (books : List (List Event)) → who + length books ≤ participants s
      → list_all (list_all (event_can_be_written s)) books ≡ true → list_all (list_all event_has_form) books ≡ true → ArePlainLines (book_lines_from s who books)
  plain_books who [] few writable form = tt
  plain_books who (book ∷ books) few writable form =
      let can = and_parts (list_all (event_can_be_written s) book) (list_all (list_all (event_can_be_written s)) books) writable in
      let has = and_parts (list_all event_has_form book) (list_all (list_all event_has_form) books) form in
      plain_joined (map (event_line s who) book) (book_lines_from s (who + 1) books)
      (plain_book who book (participant_below s who (omega (arith, few))) can.0 has.0)
      (plain_books (who + 1) books (omega (arith, few)) can.1 has.1)

line_is : (line : List ℕ) → IsPlainLine line → IsLine line
line_is [] plain = absurd (cc plain.begins)
line_is (b ∷ rest) plain = (cc plain.begins, plain.quiet.1)

lines_are : (lines : List (List ℕ)) → ArePlainLines lines → AllLines lines
lines_are [] plain = tt
lines_are (line ∷ lines) plain = (line_is line plain.0, lines_are lines plain.1)

recovered_plain : (lines : List (List ℕ)) → ArePlainLines lines → recovered_lines (blocks lines) ≡ lines
recovered_plain lines plain =
    ap recovered_lines (sym (append-nil (blocks lines))) ∙ recovered_blocks lines [] (lines_are lines plain) ∙ append-nil lines

pub plain_lines : (s : HubSettings) (books : List (List Event)) → AreBooksOf s books → AreLinesOfALog (book_lines s books)
plain_lines s books h =
    let plain = plain_books s h.settings h.codes 0 books (omega (arith, h.one_each)) h.writable h.form in
    record { plain = plain; kept = recovered_plain (book_lines s books) plain }

pub books_read_back : (s : HubSettings) (books : List (List Event)) → AreBooksOf s books → books_of_text s (books_text s books) ≡ Ok books
unfolding books_text books_of_text
books_read_back s books h =
    let lines = book_lines s books in
    let text : List ℕ = blocks lines in
    let kept : recovered_lines text ≡ lines = (plain_lines s books h).kept in
    let whole : (length (blocks (recovered_lines text)) == length text) ≡ true = eq-eqb (length (blocks (recovered_lines text))) (length text) (ap (λ (ls : List (List ℕ)). length (blocks ls)) kept) in
    ap (λ b. if b then with_lines s (recovered_lines text) (no_books s) else Err BadLine) whole
    ∙ ap (λ (ls : List (List ℕ)). with_lines s ls (no_books s)) kept
    ∙ ap (λ (n : ℕ). with_lines s lines (replicate n [])) (sym h.one_each)
    ∙ all_books s h.settings h.codes books [] (omega (arith, h.one_each)) h.writable h.form

abbrev books_or : List (List Event) → Result (List (List Event)) BookFault → List (List Event)
books_or others (Ok books) = books
books_or others (Err fault) = others

pub text_tells : (s : HubSettings) (a b : List (List Event)) → AreBooksOf s a → AreBooksOf s b → books_text s a ≡ books_text s b → a ≡ b
text_tells s a b of_a of_b same =
    ap (books_or a) (sym (books_read_back s a of_a) ∙ ap (books_of_text s) same ∙ books_read_back s b of_b)
