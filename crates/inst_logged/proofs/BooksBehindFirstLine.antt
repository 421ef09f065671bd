-- What follows the first line of a log, found again.
use Rattle.std.proofs.Common.{◌≡◌, ◌∙◌, inl, inr, Option, Some, None, IfSome, Result, Ok, Err, MatchResult, IsErrAnd, option_map, slice_get, ◌≤◌, ◌+◌, ◌-◌, ℕ, zero, suc, true, List, [], ◌∷◌, ◌++◌, length, length-append, take, drop, append_assoc, refl, sym, ap, ap₂, subst, arith}
use Rattle.std.specs.Prelude.{bytes_eq}
use Rattle.std.specs.List.{list_all}
use Rattle.std.proofs.Math.Seq.{take-append_seam, take-append-add, drop-append_seam}
use Rattle.std.proofs.lemmas.List.{append-nil, length-take-le, take_rest, length-map}
use Rattle.std.proofs.lemmas.Option.{slice_get-map}
use Rattle.inst_base.specs.Newline.{newline}
use Rattle.inst_base.specs.Text.{is_code}
use Rattle.inst_settings.specs.Settings.{HubSettings}
use Rattle.inst_settings.specs.Lawful.{AreOfAHub}
use Rattle.inst_journal.specs.History.{History}
use Rattle.inst_journal.specs.declared.event.Event.{Event}
use Rattle.inst_model.specs.Opening.{BooksCanOpen}
use Rattle.inst_world.specs.NextOpening.{CanOpenFrom, kept_by, books_of}
use Rattle.inst_books.specs.declared.fault.BookFault.{BookFault}
use Rattle.inst_books.specs.declared.fault.BookFault.TheVariants.{Memory}
use Rattle.inst_books.specs.Reading.{GivesBookUnlessMemory}
use Rattle.inst_books.specs.Books.{all_events, books_text, books_of_text}
use Rattle.inst_books.specs.Laws.{AreBooksOf}
use Rattle.inst_books.proofs.WrittenEventReadsBack.{quiet}
use Rattle.inst_books.proofs.WrittenBooksReadBack.{plain_lines, books_read_back}
use Rattle.inst_log.specs.Layout.{recovered_lines, blocks, at_rest}
use Rattle.inst_log.specs.Escape.{raw_of}
use Rattle.inst_log.specs.Opening.{lines_after_settings, Begins}
use Rattle.inst_log.proofs.Lines.{IsLine, AllLines, AllLines-append, all_lines, blocks-append, recovered_at_rest}
use Rattle.inst_log.proofs.Pieces.{lines_back}
use Rattle.inst_chain.specs.Chain.{mark_of, front_of, IsHexadecimal}
use Rattle.inst_chain.specs.declared.digest.Digest.{Digest}
use Rattle.inst_chain.specs.Summing.{HasFirst}
use Rattle.inst_chain.proofs.Chains.{covered}
use Rattle.inst_lines.specs.declared.mode.Mode.{Mode}
use Rattle.inst_logged.specs.declared.version.Version.{Version}
use Rattle.inst_logged.specs.declared.version.Version.TheVariants.{One, Two}
use Rattle.inst_logged.specs.declared.header.Origin.{Origin}
use Rattle.inst_logged.specs.Header.{lines_and_mark, header_line, first_origin, origin_from, header, header_from, lines_of_books, CanBeginFrom, AreFirstLines}
use Rattle.inst_logged.specs.LogHeader.{IsHeaderLine}
use Rattle.inst_logged.specs.Finding.{Unrefused}
use Rattle.inst_logged.specs.declared.error.LoggedError.{LoggedError}
use Rattle.inst_logged.specs.Refused.{IsRefused}
use Rattle.inst_logged.specs.inner.Books.{HasBooks, FindsBooks}
use Rattle.inst_logged.proofs.FirstLine.{itself, line_printed}

abbrev Lines : Type 0
Lines = List (List ℕ)

first_is : {a b : List ℕ} {xs ys : Lines} → a ∷ xs ≡ b ∷ ys → a ≡ b
first_is e = cc e

-- ---- a mark

pub mark_there : (text mark rest : List ℕ) (end : ℕ) → end ≤ length text → text ≡ take end text ++ (mark ++ rest) → bytes_eq mark (take (length mark) (drop end text)) ≡ true
mark_there text mark rest end within is =
    let size : length (take end text) ≡ end = length-take-le end text within in
    let behind : drop end text ≡ mark ++ rest =
    ap (λ (n : ℕ). drop n text) (sym size) ∙ ap (drop (length (take end text))) is ∙ drop-append_seam (take end text) (mark ++ rest) in
    ap (λ (l : List ℕ). bytes_eq mark (take (length mark) l)) behind ∙ ap (bytes_eq mark) (take-append_seam mark rest) ∙ itself mark

-- the marks behind lines
abbrev marks : Version → Lines → Lines
marks One lines = []
marks Two lines = mark_of (blocks lines) ∷ []

marked_is : (version : Version) (lines : Lines) → lines_and_mark version lines ≡ lines ++ marks version lines
marked_is One lines = sym (append-nil lines)
marked_is Two lines = refl

-- ---- the lines of books

pub books_whole : (s : HubSettings) (journals : List History) → AreBooksOf s (all_events journals) → books_text s (all_events journals) ≡ blocks (lines_of_books s journals)
unfolding books_text
books_whole s journals of = ap blocks (sym (plain_lines s (all_events journals) of).kept)

-- ---- lines behind a first one

module _ (version : Version) (s : HubSettings) (journals : List History) (text : List ℕ) (has : HasBooks version s journals text) (begin : ℕ) (begins : begin ≡ length (blocks (take 1 (recovered_lines text)))) where
  abbrev books : Lines
  books = lines_of_books s journals

  abbrev later : Lines
  later = marks version (has.line ∷ books) ++ has.rest

  split : recovered_lines text ≡ has.line ∷ (books ++ later)
  split = has.lines ∙ ap (λ (ls : Lines). ls ++ has.rest) (marked_is version (has.line ∷ books)) ∙ append_assoc (has.line ∷ books) (marks version (has.line ∷ books)) has.rest

  first : begin ≡ length (blocks (has.line ∷ []))
  first = begins ∙ ap (λ (ls : Lines). length (blocks (take 1 ls))) split

  all_later : AllLines (books ++ later)
  all_later = (subst AllLines split (all_lines text)).1

  text_is : text ≡ blocks (has.line ∷ []) ++ blocks (books ++ later)
  text_is = has.whole ∙ ap blocks split ∙ sym (append_assoc has.line (newline ∷ []) (blocks (books ++ later)))

  rest_is : take (length text - begin) (drop begin text) ≡ blocks (books ++ later)
  rest_is =
      take_rest text begin ∙ ap (λ (n : ℕ). drop n text) first ∙ ap (drop (length (blocks (has.line ∷ [])))) text_is ∙ drop-append_seam (blocks (has.line ∷ [])) (blocks (books ++ later))

  module _ (count end : ℕ) (counted : count ≡ length books) (ends : end ≡ length (blocks (take count (recovered_lines (take (length text - begin) (drop begin text)))))) where
    mid : end ≡ length (blocks books)
    mid =
        ends ∙ ap (λ (l : List ℕ). length (blocks (take count (recovered_lines l)))) rest_is ∙ ap (λ (ls : Lines). length (blocks (take count ls))) (lines_back (books ++ later) all_later)
        ∙ ap (λ (n : ℕ). length (blocks (take n (books ++ later)))) counted ∙ ap (λ (ls : Lines). length (blocks ls)) (take-append_seam books later)

    pub books_found : take end (take (length text - begin) (drop begin text)) ≡ blocks books
    books_found =
        ap (take end) (rest_is ∙ blocks-append books later) ∙ ap (λ (n : ℕ). take n (blocks books ++ blocks later)) mid ∙ take-append_seam (blocks books) (blocks later)

    pub all_found : length (recovered_lines (take end (take (length text - begin) (drop begin text)))) ≡ count
    all_found = ap (λ (l : List ℕ). length (recovered_lines l)) books_found ∙ ap length (lines_back books (all_lines (books_text s (all_events journals)))) ∙ sym counted

-- ---- journals with the same events

same_books : (a b : List History) → all_events a ≡ all_events b → books_of a ≡ books_of b
same_books a b same = λ i p. at p i
  where
    events : Option (List Event) → List Event
    events None = []
    events (Some es) = es

    kept : (o : Option History) → kept_by o ≡ events (option_map (λ journal. journal.events) o)
    kept None = refl
    kept (Some journal) = refl

    by_events : (journals : List History) (p : ℕ) → books_of journals p ≡ events (slice_get (all_events journals) p)
    by_events journals p = kept (slice_get journals p) ∙ ap events (sym (slice_get-map (λ journal. journal.events) journals p))

    at : (p : ℕ) → books_of a p ≡ books_of b p
    at p = by_events a p ∙ ap (λ (ess : List (List Event)). events (slice_get ess p)) same ∙ sym (by_events b p)

pub can_open_same : (s : HubSettings) (a b : List History) → all_events a ≡ all_events b → CanOpenFrom s a → CanOpenFrom s b
can_open_same s a b same can = record {
  one_each = sym (length-map b (λ journal. journal.events)) ∙ ap length (sym same) ∙ length-map a (λ journal. journal.events) ∙ can.one_each;
  books = subst (BooksCanOpen s) (same_books a b same) can.books;
}

-- ---- books that are read

module _ {V : Type 0} (view : V → List (List Event)) (read : Result V BookFault) (s : HubSettings) (journals : List History) (of : AreBooksOf s (all_events journals)) (text : List ℕ)
    (is : text ≡ books_text s (all_events journals)) (gives : GivesBookUnlessMemory view read (books_of_text s text)) where
  there : books_of_text s text ≡ Ok (all_events journals)
  there = ap (books_of_text s) is ∙ books_read_back s (all_events journals) of

  pub read_same : (found : V) → read ≡ Ok found → view found ≡ all_events journals
  read_same found some =
      let given : GivesBookUnlessMemory view (Ok found) (books_of_text s text) = subst (λ (r : Result V BookFault). GivesBookUnlessMemory view r (books_of_text s text)) some gives in
      let same : Ok (view found) ≡ Ok (all_events journals) = given ∙ there in
      cc same

  pub read_fails : (fault : BookFault) → read ≡ Err fault → fault ≡ Memory
  read_fails fault none =
      let given : GivesBookUnlessMemory view (Err fault) (books_of_text s text) = subst (λ (r : Result V BookFault). GivesBookUnlessMemory view r (books_of_text s text)) none gives in
      elim given [
        | inl memory ↦ memory
        | inr bad ↦ let no : Err fault ≡ Ok (all_events journals) = bad ∙ there in absurd (cc no)
      ]

-- an error that is handed on
pub unrefused_err : {V : Type 0} (P : V → Type 0) (r : Result V LoggedError) (f : LoggedError) → (x : LoggedError) × (r ≡ Err x) × (x ≡ f) → ¬ IsRefused f → Unrefused P r
unrefused_err P r f p not = subst (Unrefused P) (sym p.1) (subst (λ (e : LoggedError). ¬ IsRefused e) (sym p.2) not)

-- what is known of a result, where it is known to be this one
pub unrefused_is : {V : Type 0} (P : V → Type 0) (r : Result V LoggedError) (x : LoggedError) → Unrefused P r → r ≡ Err x → ¬ IsRefused x
unrefused_is P r x known is = subst (Unrefused P) is known

pub unrefused_ok : {V : Type 0} (P : V → Type 0) (r : Result V LoggedError) (x : V) → Unrefused P r → r ≡ Ok x → P x
unrefused_ok P r x known is = subst (Unrefused P) is known

-- a fault that became an error
module _ {V : Type 0} (Learnt : BookFault → LoggedError → Type 0) where
  pub fault_unrefused : (read : Result V BookFault) (mapped : Result V LoggedError) (x : LoggedError) → MatchResult read (λ v. mapped ≡ Ok v) (λ f. IsErrAnd mapped (Learnt f)) → mapped ≡ Err x
      → ((f : BookFault) → read ≡ Err f → f ≡ Memory) → ((f : BookFault) (e : LoggedError) → Learnt f e → f ≡ Memory → ¬ IsRefused e) → ¬ IsRefused x
  fault_unrefused (Ok v) mapped x cases is memory learnt = let no : Ok v ≡ Err x = sym cases ∙ is in absurd (cc no)
  fault_unrefused (Err f) mapped x cases is memory learnt = learnt f x (subst (λ (r : Result V LoggedError). IsErrAnd r (Learnt f)) is cases) (memory f refl)

  pub mapped_ok : (read : Result V BookFault) (mapped : Result V LoggedError) (x : V) → MatchResult read (λ v. mapped ≡ Ok v) (λ f. IsErrAnd mapped (Learnt f)) → mapped ≡ Ok x → read ≡ Ok x
  mapped_ok (Ok v) mapped x cases is =
      let both : ◌≡◌ {A = Result V LoggedError} (Ok v) (Ok x) = sym cases ∙ is in
      let same : v ≡ x = cc both in
      ap (λ (w : V). Ok w) same
  mapped_ok (Err f) mapped x cases is = absurd (subst (λ (r : Result V LoggedError). IsErrAnd r (Learnt f)) is cases)

-- ---- the first lines of a log

all_take : (n : ℕ) (lines : Lines) → AllLines lines → AllLines (take n lines)
all_take zero lines all = tt
all_take (suc n) [] all = tt
all_take (suc n) (line ∷ lines) all = (all.0, all_take n lines all.1)

header_is_line : (version : Version) (mode : Mode) (s : HubSettings) (origin : Origin) → list_all is_code s.codes ≡ true → IfSome origin.previous IsHexadecimal → IsLine (header_line version mode s origin)
header_is_line version mode s origin formed hex = (refl, (quiet (header_line version mode s origin) (line_printed version mode s origin formed hex)).1)

marks_are_lines : (version : Version) (lines : Lines) → AllLines lines → AllLines (lines_and_mark version lines)
marks_are_lines One lines all = all
marks_are_lines Two lines all =
    AllLines-append lines (mark_of (blocks lines) ∷ []) all (subst AllLines (covered (lines ∷ []) [] tt) (all_lines (front_of (lines ∷ []) ++ [])))

lines_from_books : (version : Version) (mode : Mode) (s : HubSettings) (journals : List History) (previous : Option Digest) → list_all is_code s.codes ≡ true → IfSome previous IsHexadecimal
    → recovered_lines (header_from version mode s journals previous) ≡ lines_and_mark version (header_line version mode s (origin_from s journals previous) ∷ lines_of_books s journals)
unfolding header_from
lines_from_books version mode s journals previous formed hex =
    let lines : Lines = header_line version mode s (origin_from s journals previous) ∷ lines_of_books s journals in
    recovered_at_rest (lines_and_mark version lines) (marks_are_lines version lines (header_is_line version mode s (origin_from s journals previous) formed hex, all_lines (books_text s (all_events journals))))

pub lines_of_header : (version : Version) (mode : Mode) (s : HubSettings) → list_all is_code s.codes ≡ true
    → recovered_lines (header version mode s) ≡ lines_and_mark version (header_line version mode s first_origin ∷ [])
unfolding header
lines_of_header version mode s formed =
    let lines : Lines = header_line version mode s first_origin ∷ [] in
    recovered_at_rest (lines_and_mark version lines) (marks_are_lines version lines (header_is_line version mode s first_origin formed tt, tt))

marked_long : (version : Version) (lines : Lines) → length (lines_and_mark version lines) ≤ length lines + 1
marked_long One lines = omega arith
marked_long Two lines = omega (arith, length-append lines (mark_of (blocks lines) ∷ []))

has_books : (version : Version) (s : HubSettings) (journals : List History) (line : List ℕ) (kept : Lines) (file text : List ℕ) (k : ℕ) → length (lines_of_books s journals) + 2 ≤ k
    → recovered_lines file ≡ lines_and_mark version (line ∷ lines_of_books s journals) ++ kept → text ≡ blocks (take k (recovered_lines file)) → HasBooks version s journals text
has_books version s journals line kept file text k long begins is =
    let first = lines_and_mark version (line ∷ lines_of_books s journals) in
    let split : k ≡ length first + (k - length first) = omega (arith, marked_long version (line ∷ lines_of_books s journals)) in
    let lines : recovered_lines text ≡ take k (recovered_lines file) = ap recovered_lines is ∙ lines_back (take k (recovered_lines file)) (all_take k (recovered_lines file) (all_lines file)) in
    record {
      line = line;
      rest = take (k - length first) kept;
      whole = is ∙ ap blocks (sym lines);
      lines = lines ∙ ap (take k) begins ∙ ap (λ (n : ℕ). take n (first ++ kept)) split ∙ take-append-add first kept (k - length first);
    }

-- what was read of a log of these books
pub text_has_books : (version : Version) (mode : Mode) (s : HubSettings) (journals : List History) (previous : Option Digest) (start file text : List ℕ) (k : ℕ) → CanBeginFrom s journals
    → IsHeaderLine version mode s (origin_from s journals previous) start → Begins (header_from version mode s journals previous) file → length (lines_of_books s journals) + 2 ≤ k
    → text ≡ blocks (take k (recovered_lines file)) → HasBooks version s journals text
text_has_books version mode s journals previous start file text k can line begins long is =
    let header = header_from version mode s journals previous in
    let lines = begins ∙ ap (λ (ls : Lines). ls ++ lines_after_settings header file) (lines_from_books version mode s journals previous can.books.codes line.digest) in
    has_books version s journals (header_line version mode s (origin_from s journals previous)) (lines_after_settings header file) file text k long lines is

-- a line that has books isn't that of a hub that opened for the first time
pub books_said : (found : Origin) (count : ℕ) → found.books ≡ Some count → found ≡ first_origin → ⊥
books_said found count is same =
    let no : ◌≡◌ {A = Option ℕ} (Some count) None = sym is ∙ ap (λ (o : Origin). o.books) same in
    cc no

-- how many lines of books follow
pub count_said : (s : HubSettings) (journals : List History) (previous : Option Digest) (found : Origin) (count : ℕ) → found.books ≡ Some count → found ≡ origin_from s journals previous
    → count ≡ length (lines_of_books s journals)
count_said s journals previous found count is same =
    let both : Some count ≡ Some (length (lines_of_books s journals)) = sym is ∙ ap (λ (o : Origin). o.books) same in
    cc both

-- books that were read, with the digest of the first line
pub books_same : {V : Type 0} (events_of : V → List (List Event)) (read : Option V) (one : V) (events : List (List Event)) (other previous : Option Digest) → option_map events_of read ≡ Some events
    → read ≡ Some one → other ≡ previous → ◌≡◌ {A = Option (List (List Event) × Option Digest)} (Some (events_of one, other)) (Some (events, previous))
books_same events_of read one events other previous seen is same =
    let there : Some (events_of one) ≡ Some events = ap (option_map events_of) (sym is) ∙ seen in
    let events_same : events_of one ≡ events = cc there in
    ap₂ (λ (es : List (List Event)) (p : Option Digest). Some (es, p)) events_same same

-- ---- the first line that was read

-- the first line of a log that opened for the first time, or from these journals
first_read : (version : Version) (header file : List ℕ) (line : List ℕ) (others : Lines) → recovered_lines header ≡ lines_and_mark version (line ∷ others) → Begins header file
    → blocks (take 1 (recovered_lines file)) ≡ line ++ newline ∷ []
first_read One header file line others is begins = ap (λ (ls : Lines). blocks (take 1 ls)) (begins ∙ ap (λ (ls : Lines). ls ++ lines_after_settings header file) is)
first_read Two header file line others is begins = ap (λ (ls : Lines). blocks (take 1 ls)) (begins ∙ ap (λ (ls : Lines). ls ++ lines_after_settings header file) is)

pub first_of_header : (version : Version) (mode : Mode) (s : HubSettings) (file text : List ℕ) → AreOfAHub s → Begins (header version mode s) file
    → text ≡ blocks (take 1 (recovered_lines file)) → IsHeaderLine version mode s first_origin text
first_of_header version mode s file text of begins is = record {
  settings = of;
  word = tt;
  digest = tt;
  line = inr (is ∙ first_read version (header version mode s) file (header_line version mode s first_origin) [] (lines_of_header version mode s of.codes_formed) begins);
}

pub first_of_books : (version : Version) (mode : Mode) (s : HubSettings) (journals : List History) (previous : Option Digest) (file text : List ℕ) → CanBeginFrom s journals → IfSome previous IsHexadecimal
    → Begins (header_from version mode s journals previous) file → text ≡ blocks (take 1 (recovered_lines file)) → IsHeaderLine version mode s (origin_from s journals previous) text
first_of_books version mode s journals previous file text can hex begins is = record {
  settings = record { lawful = can.books.settings; codes_formed = can.books.codes };
  word = omega (arith, can.few);
  digest = hex;
  line = inr (is ∙ first_read version (header_from version mode s journals previous) file (header_line version mode s (origin_from s journals previous)) (lines_of_books s journals)
      (lines_from_books version mode s journals previous can.books.codes hex) begins);
}

-- the first line of a log, without its newline
first_alone : (version : Version) (header file : List ℕ) (line : List ℕ) (others : Lines) (found : List ℕ) → recovered_lines header ≡ lines_and_mark version (line ∷ others) → Begins header file
    → HasFirst (recovered_lines file) found → found ≡ line
first_alone One header file line others found is begins has = first_is (sym has.split ∙ begins ∙ ap (λ (ls : Lines). ls ++ lines_after_settings header file) is)
first_alone Two header file line others found is begins has = first_is (sym has.split ∙ begins ∙ ap (λ (ls : Lines). ls ++ lines_after_settings header file) is)

pub header_of_first : (version : Version) (mode : Mode) (s : HubSettings) (header file found : List ℕ) → AreFirstLines version mode s header → Begins header file → HasFirst (recovered_lines file) found
    → (origin : Origin) × IsHeaderLine version mode s origin found
header_of_first version mode s h file found (inl (of, same)) begins has = (
  first_origin,
  record {
    settings = of;
    word = tt;
    digest = tt;
    line = inl (first_alone version (header version mode s) file (header_line version mode s first_origin) [] found (lines_of_header version mode s of.codes_formed) (subst (λ (l : List ℕ). Begins l file) same begins) has);
  },
)
header_of_first version mode s h file found (inr (journals, previous, can, hex, same)) begins has = (
  origin_from s journals previous,
  record {
    settings = record { lawful = can.books.settings; codes_formed = can.books.codes };
    word = omega (arith, can.few);
    digest = hex;
    line = inl (first_alone version (header_from version mode s journals previous) file (header_line version mode s (origin_from s journals previous)) (lines_of_books s journals) found
        (lines_from_books version mode s journals previous can.books.codes hex) (subst (λ (l : List ℕ). Begins l file) same begins) has);
  },
)

-- and with it, as it is read
pub header_of_text : (version : Version) (mode : Mode) (s : HubSettings) (header file text : List ℕ) → AreFirstLines version mode s header → Begins header file → text ≡ blocks (take 1 (recovered_lines file))
    → (origin : Origin) × IsHeaderLine version mode s origin text
header_of_text version mode s h file text (inl (of, same)) begins is = (first_origin, first_of_header version mode s file text of (subst (λ (l : List ℕ). Begins l file) same begins) is)
header_of_text version mode s h file text (inr (journals, previous, can, hex, same)) begins is =
    (origin_from s journals previous, first_of_books version mode s journals previous file text can hex (subst (λ (l : List ℕ). Begins l file) same begins) is)

-- a log has a line
begins_some : (version : Version) (header file : List ℕ) (line : List ℕ) (others : Lines) → recovered_lines header ≡ lines_and_mark version (line ∷ others) → Begins header file → recovered_lines file ≡ [] → ⊥
begins_some One header file line others is begins none = cc (sym none ∙ begins ∙ ap (λ (ls : Lines). ls ++ lines_after_settings header file) is)
begins_some Two header file line others is begins none = cc (sym none ∙ begins ∙ ap (λ (ls : Lines). ls ++ lines_after_settings header file) is)

pub log_has_a_line : (version : Version) (mode : Mode) (s : HubSettings) (header file : List ℕ) → AreFirstLines version mode s header → Begins header file → recovered_lines file ≡ [] → ⊥
log_has_a_line version mode s h file (inl (of, same)) begins =
    begins_some version (header version mode s) file _ [] (lines_of_header version mode s of.codes_formed) (subst (λ (l : List ℕ). Begins l file) same begins)
log_has_a_line version mode s h file (inr (journals, previous, can, hex, same)) begins =
    begins_some version (header_from version mode s journals previous) file _ (lines_of_books s journals) (lines_from_books version mode s journals previous can.books.codes hex) (subst (λ (l : List ℕ). Begins l file) same begins)

-- some line is the first, so that its version is found
module _ (mode : Mode) (s : HubSettings) (first file text : List ℕ) (found : Option Version) (back : (version : Version) (mode : Mode) (s : HubSettings) (origin : Origin) → IsHeaderLine version mode s origin text → found ≡ Some version)
    (version : Version) (are : AreFirstLines version mode s first) (begins : Begins first file) (is : text ≡ blocks (take 1 (recovered_lines file))) where
  pub version_there : found ≡ Some version
  version_there = let (origin, line) = header_of_text version mode s first file text are begins is in back version mode s origin line

  pub version_same : (v : Version) → found ≡ Some v → v ≡ version
  version_same v some = let both : Some v ≡ Some version = sym some ∙ version_there in cc both

from_events : (version : Version) (mode : Mode) (s : HubSettings) (previous : Option Digest) (a b : List History) → all_events a ≡ all_events b → header_from version mode s a previous ≡ header_from version mode s b previous
unfolding header_from
from_events version mode s previous a b same =
    ap (λ (ess : List (List Event)).
    let books = recovered_lines (books_text s ess) in
    at_rest (lines_and_mark version (raw_of (header_line version mode s (record { books = Some (length books); previous = previous })) ∷ books))) same

-- what was found of the books
module _ {V : Type 0} (books_in : V → List (List Event) × Option Digest) (version : Version) (mode : Mode) (s : HubSettings) (first file text : List ℕ) (result : Result (Option V) LoggedError)
    (finds : FindsBooks books_in version mode s text file result) (are : AreFirstLines version mode s first) (begins : Begins first file) (is : text ≡ blocks (take 1 (recovered_lines file))) where
  pub books_unrefused : (e : LoggedError) → result ≡ Err e → ¬ IsRefused e
  books_unrefused e failed = at are
    where
      at : AreFirstLines version mode s first → ¬ IsRefused e
      at (inl (of, same)) = unrefused_is _ result e (finds.none (first_of_header version mode s file text of (subst (λ (l : List ℕ). Begins l file) same begins) is)) failed
      at (inr (journals, previous, can, hex, same)) =
          let here = subst (λ (l : List ℕ). Begins l file) same begins in
          unrefused_is _ result e (finds.some journals previous can (first_of_books version mode s journals previous file text can hex here is) here) failed

  pub none_found : result ≡ Ok None → header version mode s ≡ first
  none_found none = at are
    where
      at : AreFirstLines version mode s first → header version mode s ≡ first
      at (inl (of, same)) = sym same
      at (inr (journals, previous, can, hex, same)) =
          let here = subst (λ (l : List ℕ). Begins l file) same begins in
          absurd (cc (unrefused_ok _ result None (finds.some journals previous can (first_of_books version mode s journals previous file text can hex here is) here) none))

  pub some_found : (found : V) → result ≡ Ok (Some found) → (again : List History) → (books_in found).0 ≡ all_events again → header_from version mode s again (books_in found).1 ≡ first
  some_found found some again same_events = at are
    where
      at : AreFirstLines version mode s first → header_from version mode s again (books_in found).1 ≡ first
      at (inl (of, same)) = absurd (cc (unrefused_ok _ result (Some found) (finds.none (first_of_header version mode s file text of (subst (λ (l : List ℕ). Begins l file) same begins) is)) some))
      at (inr (journals, previous, can, hex, same)) =
          let here = subst (λ (l : List ℕ). Begins l file) same begins in
          let both : ◌≡◌ {A = Option (List (List Event) × Option Digest)} (Some (books_in found)) (Some (all_events journals, previous)) =
          unrefused_ok _ result (Some found) (finds.some journals previous can (first_of_books version mode s journals previous file text can hex here is) here) some in
          let are_same : books_in found ≡ (all_events journals, previous) = cc both in
          from_events version mode s (books_in found).1 again journals (sym same_events ∙ ap (λ (b : List (List Event) × Option Digest). b.0) are_same)
          ∙ ap (λ (b : List (List Event) × Option Digest). header_from version mode s journals b.1) are_same ∙ sym same
