-- What is read of a text is what its lines say.
use Rattle.std.proofs.Common.{◌≡◌, inl, inr, ℕ, zero, suc, ◌==◌, ◌<◌, Bool, true, false, nat_lt, List, [], ◌∷◌, ◌++◌, length, get_or, Result, Ok, Err, IsOkAnd, Option, Some, None, ok_or, lt-ltb, refl, sym, ap, ◌∙◌, subst, arith, append_assoc, append-nil, length-append, if◌then◌else◌}
use Rattle.std.specs.Prelude.{flat_map}
use Rattle.std.proofs.lemmas.Bool.{cases_eq, eq-eqb, ne_eqb, eqb-true}
use Rattle.std.proofs.lemmas.Bool.Decides.{nat_tests}
use Rattle.std.proofs.lemmas.List.{length-replicate, get_or-replicate}
use Rattle.std.proofs.lemmas.List.Quantifiers.{position-Some}
use Rattle.inst_base.specs.declared.fault.Fault.{Fault}
use Rattle.inst_base.specs.declared.fault.Fault.TheVariants.{UnknownParticipant}
use Rattle.inst_settings.specs.Codes.{index_of}
use Rattle.inst_settings.specs.Settings.{same_text, HubSettings, participants, is_participant}
use Rattle.inst_journal.specs.declared.event.Event.{Event}
use Rattle.inst_json.specs.LineFields.{FoundValue, LineFields, fields_of}
use Rattle.inst_json.specs.Refusals.{◌>>=◌}
use Rattle.inst_json.specs.Fields.{text_in, code_in}
use Rattle.inst_json.specs.Checks.{participant_of}
use Rattle.inst_json.specs.Lines.{json_of}
use Rattle.inst_log.specs.Layout.{recovered_lines, blocks, AreWholeLines}
use Rattle.inst_log.proofs.Lines.{parts}
use Rattle.inst_books.specs.declared.fault.BookFault.{BookFault}
use Rattle.inst_books.specs.declared.fault.BookFault.TheVariants.{BadLine}
use Rattle.inst_books.specs.Reading.{Entry, participant_in, event_named, entry_in, entry_of_line, or_bad_line, event_of_line}
use Rattle.inst_books.specs.Books.{books_with_event, go_on, with_lines, no_books, books_of_text}
use Rattle.inst_books.specs.Laws.{said_of, EachSaysAnEvent, TellsTheBooks}

-- ---- one event

with_event-length : (who : ℕ) (event : Event) (books : List (List Event)) → length (books_with_event who event books) ≡ length books
with_event-length who event [] = refl
with_event-length zero event (book ∷ books) = refl
with_event-length (suc who) event (book ∷ books) = ap suc (with_event-length who event books)

both_next : (who p : ℕ) → (suc who == suc p) ≡ (who == p)
both_next who p = elim (cases_eq who p) [
  | inl same ↦ eq-eqb (suc who) (suc p) (ap suc same) ∙ sym (eq-eqb who p same)
  | inr other ↦ ne_eqb (suc who) (suc p) (λ (same : suc who ≡ suc p). other (omega (arith, same))) ∙ sym (ne_eqb who p other)
]

first_other : (p : ℕ) → (zero == suc p) ≡ false
first_other p = ne_eqb zero (suc p) (λ (same : zero ≡ suc p). omega (arith, same))

later_other : (who : ℕ) → (suc who == zero) ≡ false
later_other who = ne_eqb (suc who) zero (λ (same : suc who ≡ zero). omega (arith, same))

abbrev if_said : Event → Bool → List Event
if_said event said = if said then event ∷ [] else []

with_event-at : (who p : ℕ) (event : Event) (books : List (List Event)) → p < length books → get_or (books_with_event who event books) p [] ≡ get_or books p [] ++ (if who == p then event ∷ [] else [])
with_event-at who p event [] low = absurd (omega arith)
with_event-at zero zero event (book ∷ books) low = refl
with_event-at zero (suc p) event (book ∷ books) low = sym (append-nil (get_or books p [])) ∙ ap (λ (b : Bool). get_or books p [] ++ if_said event b) (sym (first_other p))
with_event-at (suc who) zero event (book ∷ books) low = sym (append-nil book) ∙ ap (λ (b : Bool). book ++ if_said event b) (sym (later_other who))
with_event-at (suc who) (suc p) event (book ∷ books) low =
    with_event-at who p event books (omega arith) ∙ ap (λ (b : Bool). get_or books p [] ++ if_said event b) (sym (both_next who p))

-- ---- whose event a line says

bound : {A B : Type 0} (r : Result A Fault) (f : A → Result B Fault) (y : B) → (r >>= f) ≡ Ok y → (x : A) × (r ≡ Ok x) × (f x ≡ Ok y)
bound (Ok x) f y is = (x, refl, is)
bound (Err fault) f y is = absurd (cc is)

no_bad_line : (r : Result Entry Fault) (entry : Entry) → or_bad_line r ≡ Ok entry → r ≡ Ok entry
no_bad_line (Ok x) entry is = let same : x ≡ entry = cc is in ap (λ (e : Entry). Ok e) same
no_bad_line (Err fault) entry is = absurd (cc is)

abbrev entry_or : Entry → Result Entry Fault → Entry
entry_or other (Ok entry) = entry
entry_or other (Err fault) = other

some_there : (o : Option ℕ) (who : ℕ) → ok_or o UnknownParticipant ≡ Ok who → o ≡ Some who
some_there None who is = absurd (cc is)
some_there (Some x) who is = let same : x ≡ who = cc is in ap (λ (n : ℕ). Some n) same

module _ (s : HubSettings) where
  participant_there : (under : FoundValue) (who : ℕ) → participant_in s under ≡ Ok who → is_participant s who ≡ true
  unfolding participant_in participant_of
  participant_there under who is =
      let (code, in_form, has) = bound (code_in under) (participant_of s) who is in
      let low : who < participants s = (position-Some (same_text code) s.codes who [] (some_there (index_of code s.codes) who has)).0 in
      lt-ltb who (participants s) low

  abbrev of_event : ℕ → Event → Result Entry Fault
  of_event who event = Ok (who, event)

  abbrev of_name : LineFields → ℕ → List ℕ → Result Entry Fault
  of_name line who name = event_named s line name >>= of_event who

  abbrev of_book : LineFields → ℕ → Result Entry Fault
  of_book line who = text_in line.event >>= of_name line who

  entry_there : (line : LineFields) (entry : Entry) → entry_in s line ≡ Ok entry → is_participant s entry.0 ≡ true
  unfolding entry_in
  entry_there line entry is =
      let (who, in_book, rest) = bound (participant_in s line.book) (of_book line) entry is in
      let (name, in_event, named) = bound (text_in line.event) (of_name line who) entry rest in
      let (event, in_line, says) = bound (event_named s line name) (of_event who) entry named in
      let same : who ≡ entry.0 = ap (λ (r : Result Entry Fault). (entry_or entry r).0) says in
      ap (is_participant s) (sym same) ∙ participant_there line.book who in_book

  pub line_there : (line : List ℕ) (entry : Entry) → event_of_line s line ≡ Ok entry → is_participant s entry.0 ≡ true
  unfolding entry_of_line
  line_there line entry is =
      let (value, is_json, has) = bound (json_of line) (λ d. entry_in s (fields_of d)) entry (no_bad_line (entry_of_line s line) entry is) in
      entry_there (fields_of value) entry has

-- ---- all lines

module _ (s : HubSettings) where
  abbrev said : ℕ → List (List ℕ) → List Event
  said p lines = flat_map (λ line. said_of p (event_of_line s line)) lines

  -- what holds of the books that the lines lead to
  record Leads (lines : List (List ℕ)) (before after : List (List Event)) : Type 0 where
    events : EachSaysAnEvent s lines
    one_each : length after ≡ length before
    book : (p : ℕ) → p < length before → get_or after p [] ≡ get_or before p [] ++ said p lines

  abbrev LeadFrom : List (List ℕ) → Type 0
  LeadFrom lines = (before after : List (List Event)) → with_lines s lines before ≡ Ok after → Leads lines before after

  none_lead : LeadFrom []
  none_lead before after is =
      let same : before ≡ after = cc is in record {
        events = tt;
        one_each = ap length (sym same);
        book = λ p low. ap (λ (books : List (List Event)). get_or books p []) (sym same) ∙ sym (append-nil (get_or before p []));
      }

  -- the line says `told`
  one_leads : (line : List ℕ) (lines : List (List ℕ)) (told : Result Entry BookFault) → event_of_line s line ≡ told → LeadFrom lines → (before after : List (List Event)) → go_on (with_lines s lines) before told ≡ Ok after → Leads (line ∷ lines) before after
  one_leads line lines (Err fault) says rest before after is = absurd (cc is)
  one_leads line lines (Ok entry) says rest before after is =
      let next = books_with_event entry.0 entry.1 before in
      let long = with_event-length entry.0 entry.1 before in
      let leads = rest next after is in record {
        events = (subst (λ (r : Result Entry BookFault). IsOkAnd r (λ e. is_participant s e.0 ≡ true)) (sym says) (line_there s line entry says), leads.events);
        one_each = leads.one_each ∙ long;
        book = λ p low.
            leads.book p (omega (arith, long))
            ∙ ap (λ (front : List Event). front ++ said p lines) (with_event-at entry.0 p entry.1 before low)
            ∙ append_assoc (get_or before p []) (said_of p (Ok entry)) (said p lines)
            ∙ ap (λ (r : Result Entry BookFault). get_or before p [] ++ (said_of p r ++ said p lines)) (sym says);
      }

  all_lead : (lines : List (List ℕ)) → LeadFrom lines
  all_lead [] = none_lead
  all_lead (line ∷ lines) = one_leads line lines (event_of_line s line) refl (all_lead lines)

-- ---- whole texts

same_length : (text : List ℕ) → length (blocks (recovered_lines text)) ≡ length text → AreWholeLines text
same_length text same =
    let ends = parts text in
    let none : length ends.end ≡ 0 = omega (arith, same, ap length ends.split, length-append (blocks (recovered_lines text)) ends.end) in
    ends.split ∙ ap (λ (end : List ℕ). blocks (recovered_lines text) ++ end) (empty ends.end none) ∙ append-nil (blocks (recovered_lines text))
  where
    empty : (end : List ℕ) → length end ≡ 0 → end ≡ []
    empty [] none = refl
    empty (b ∷ rest) none = absurd (omega arith)

-- of a choice that gives books, the test holds
chosen : (test : Bool) (read : Result (List (List Event)) BookFault) (books : List (List Event)) → (if test then read else Err BadLine) ≡ Ok books → (test ≡ true) × (read ≡ Ok books)
chosen true read books is = (refl, is)
chosen false read books is = absurd (cc is)

below : (p n : ℕ) → nat_lt p n ≡ true → p < n
below p n h = grind (arith, nat_tests)

pub tells : (s : HubSettings) (text : List ℕ) (books : List (List Event)) → books_of_text s text ≡ Ok books → TellsTheBooks s text books
unfolding books_of_text
tells s text books is =
    let choice = chosen (length (blocks (recovered_lines text)) == length text) (with_lines s (recovered_lines text) (no_books s)) books is in
    let leads = all_lead s (recovered_lines text) (no_books s) books choice.1 in
    let many : length (no_books s) ≡ participants s = length-replicate {A = List Event} (participants s) [] in record {
      whole = same_length text (eqb-true (length (blocks (recovered_lines text))) (length text) choice.0);
      events = leads.events;
      one_each = leads.one_each ∙ many;
      book = λ p known.
          let low : p < participants s = below p (participants s) known in
          leads.book p (omega (arith, many)) ∙ ap (λ (front : List Event). front ++ said s p (recovered_lines text)) (get_or-replicate (participants s) p [] [] low);
    }
