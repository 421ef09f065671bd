-- Journals that are written one after another, and that events are put into.
use Rattle.std.proofs.Common.{◌≡◌, ℕ, zero, suc, ◌+◌, ◌<◌, ◌≤◌, true, List, [], ◌∷◌, ◌++◌, length, take, drop, get_or, take_all, map, replicate, refl, sym, ap, ◌∙◌, arith, append_assoc}
use Rattle.std.specs.Prelude.{slice_set}
use Rattle.std.specs.List.{list_all}
use Rattle.std.proofs.lemmas.Bool.{and_parts}
use Rattle.std.proofs.lemmas.List.{drop_more, take_more, map-append}
use Rattle.std.proofs.lemmas.List.Folds.{list_all-append}
use Rattle.std.proofs.lemmas.Option.{unwrap_or-slice_get}
use Rattle.inst_base.specs.Text.{is_code}
use Rattle.inst_settings.specs.Settings.{HubSettings}
use Rattle.inst_command.specs.LineText.{code_numbered}
use Rattle.inst_journal.specs.declared.event.Event.{Event}
use Rattle.inst_journal.specs.History.{History}
use Rattle.inst_log.specs.Layout.{blocks}
use Rattle.inst_log.proofs.Lines.{blocks-append}
use Rattle.inst_books.specs.Events.{event_line, event_can_be_written}
use Rattle.inst_books.specs.Books.{all_events, AreWritable, book_lines_from, no_books, books_with_event}
use Rattle.inst_books.specs.Laws.{event_has_form}

pub kept_in : (journals : List History) (i : ℕ) (event : Event) (old new : History) → i < length journals → new.events ≡ (get_or journals i old).events ++ event ∷ []
    → all_events (slice_set journals i new) ≡ books_with_event i event (all_events journals)
kept_in [] i event old new low more = absurd (omega arith)
kept_in (journal ∷ journals) zero event old new low more = ap (λ (book : List Event). book ∷ all_events journals) more
kept_in (journal ∷ journals) (suc i) event old new low more = ap (λ (books : List (List Event)). journal.events ∷ books) (kept_in journals i event old new (omega arith) more)

-- one book more is written
pub written_next : (s : HubSettings) (journals : List History) (who : ℕ) (d : History) (events : List Event) (text new out : List ℕ) → who < length journals → events ≡ (get_or journals who d).events
    → new ≡ text ++ blocks (map (event_line s who) events) → text ++ blocks (book_lines_from s who (all_events (drop who journals))) ≡ out
    → new ++ blocks (book_lines_from s (who + 1) (all_events (drop (who + 1) journals))) ≡ out
written_next s journals who d events text new out low is more so =
    let rest = book_lines_from s (who + 1) (all_events (drop (who + 1) journals)) in
    let first = map (event_line s who) events in
    ap (λ (t : List ℕ). t ++ blocks rest) more ∙ append_assoc text (blocks first) (blocks rest)
    ∙ ap (λ (t : List ℕ). text ++ t) (sym (blocks-append first rest))
    ∙ ap (λ (book : List Event). text ++ blocks (map (event_line s who) book ++ rest)) is
    ∙ ap (λ (hs : List History). text ++ blocks (book_lines_from s who (all_events hs))) (sym (drop_more journals who d low)) ∙ so

-- the book at hand can be written, and so can those behind it
pub writable_next : (s : HubSettings) (journals : List History) (who : ℕ) (d : History) → who < length journals
    → list_all (list_all (event_can_be_written s)) (all_events (drop who journals)) ≡ true
    → (list_all (event_can_be_written s) (get_or journals who d).events ≡ true) × (list_all (list_all (event_can_be_written s)) (all_events (drop (who + 1) journals)) ≡ true)
writable_next s journals who d low all =
    and_parts (list_all (event_can_be_written s) (get_or journals who d).events) (list_all (list_all (event_can_be_written s)) (all_events (drop (who + 1) journals)))
    (ap (λ (hs : List History). list_all (list_all (event_can_be_written s)) (all_events hs)) (sym (drop_more journals who d low)) ∙ all)

-- ---- what is seen of forms on the way

pub form_next : (journals : List History) (who : ℕ) (d : History) (events : List Event) → who < length journals → events ≡ (get_or journals who d).events
    → list_all event_has_form events ≡ true → list_all (list_all event_has_form) (all_events (take who journals)) ≡ true
    → list_all (list_all event_has_form) (all_events (take (who + 1) journals)) ≡ true
form_next journals who d events low is here before =
    let front = all_events (take who journals) in
    let book = (get_or journals who d).events in
    let has : list_all event_has_form book ≡ true = ap (list_all event_has_form) (sym is) ∙ here in
    ap (λ (hs : List History). list_all (list_all event_has_form) (all_events hs)) (take_more journals who d low)
    ∙ ap (list_all (list_all event_has_form)) (map-append (λ (h : History). h.events) (take who journals) (get_or journals who d ∷ []))
    ∙ list_all-append (list_all event_has_form) front (book ∷ []) ∙ rw (before, has) refl

pub form_all : (journals : List History) (who : ℕ) → length journals ≤ who → list_all (list_all event_has_form) (all_events (take who journals)) ≡ true
    → list_all (list_all event_has_form) (all_events journals) ≡ true
form_all journals who all h = ap (λ (hs : List History). list_all (list_all event_has_form) (all_events hs)) (sym (take_all who journals all)) ∙ h

pub code_next : (s : HubSettings) (who : ℕ) → who < length s.codes → is_code (code_numbered s who) ≡ true
    → list_all is_code (take who s.codes) ≡ true → list_all is_code (take (who + 1) s.codes) ≡ true
code_next s who low here before =
    let code = get_or s.codes who [] in
    let has : is_code code ≡ true = ap is_code (sym (unwrap_or-slice_get s.codes who [])) ∙ here in
    ap (list_all is_code) (take_more s.codes who [] low) ∙ list_all-append is_code (take who s.codes) (code ∷ []) ∙ rw (before, has) refl

pub code_all : (s : HubSettings) (who : ℕ) → length s.codes ≤ who → list_all is_code (take who s.codes) ≡ true → list_all is_code s.codes ≡ true
code_all s who all h = ap (list_all is_code) (sym (take_all who s.codes all)) ∙ h

-- ---- what is read can be written

pub with_event_writable : (s : HubSettings) (who : ℕ) (event : Event) (books : List (List Event)) → event_can_be_written s event ≡ true → AreWritable s books → AreWritable s (books_with_event who event books)
with_event_writable s who event [] can all = refl
with_event_writable s zero event (book ∷ books) can all =
    let parts = and_parts (list_all (event_can_be_written s) book) (list_all (list_all (event_can_be_written s)) books) all in
    let longer : list_all (event_can_be_written s) (book ++ event ∷ []) ≡ true = list_all-append (event_can_be_written s) book (event ∷ []) ∙ rw (parts.0, can) refl in
    rw (longer, parts.1) refl
with_event_writable s (suc who) event (book ∷ books) can all =
    let parts = and_parts (list_all (event_can_be_written s) book) (list_all (list_all (event_can_be_written s)) books) all in
    rw (parts.0, with_event_writable s who event books can parts.1) refl

none_writable : (s : HubSettings) (n : ℕ) → AreWritable s (replicate n [])
none_writable s zero = refl
none_writable s (suc n) = none_writable s n

pub no_books_writable : (s : HubSettings) (books : List (List Event)) → books ≡ no_books s → AreWritable s books
no_books_writable s books is = ap (list_all (list_all (event_can_be_written s))) is ∙ none_writable s (length s.codes)
