-- The first line of a log reads back.
use Rattle.std.proofs.Common.{◌≡◌, ◌⊎◌, inl, inr, ◌-◌, take, drop, MatchOption, true≢false, subst, length-append, ◌<◌, ◌≤◌, ◌^◌, ◌==◌, ℕ, zero, suc, ◌+◌, ◌/◌, ◌%◌, Bool, true, false, cond, ◌||◌, not, List, [], ◌∷◌, ◌++◌, length, map, codes, decimal, Option, Some, None, IfSome, option_map, Result, Ok, Err, ok_or, append_assoc, refl, sym, ◌∙◌, ap, arith}
use Rattle.std.specs.Prelude.{bytes_eq, unwrap_or}
use Rattle.std.specs.List.{list_all}
use Rattle.std.proofs.Math.Seq.{take-append_seam, drop-append_seam}
use Rattle.std.proofs.lemmas.List.{append-nil, take-append-drop}
use Rattle.std.proofs.lemmas.Slice.Eq.{bytes_eq-Decides}
use Rattle.serde_json.specs.View.{view, items_view}
use Rattle.serde_json.specs.declared.value.Value.{Value}
use Rattle.std.specs.Str.{IsUtf8}
use Rattle.std.specs.Fmt.{digits, digits_onto, digit_glyph}
use Rattle.std.proofs.lemmas.Bool.{and_parts}
use Rattle.std.proofs.lemmas.Bool.Decides.{nat_tests, not_from_Decides}
use Rattle.std.proofs.lemmas.Str.{IsUtf8-from_ascii}
use Rattle.json.specs.Tree as tree
use Rattle.json.specs.Print.{escape, escape_byte}
use Rattle.json.proofs.Printed.Decimals.{IsNumber-decimal}
use Rattle.serde_json.specs.Data.{Data, object, array, string}
use Rattle.serde_json.specs.Read.{read, of_json, of_items}
use Rattle.serde_json.specs.Written.{compact_text, items_text, outline, items_outline, members_outline}
use Rattle.serde_json.proofs.Numbers.{number_of-decimal}
use Rattle.serde_json.proofs.OnLiterals.{serde_json_on_literals}
use Rattle.inst_base.specs.declared.fault.Fault.{Fault}
use Rattle.inst_base.specs.declared.fault.Fault.TheVariants.{NotJson}
use Rattle.inst_base.specs.Text.{is_code, is_code_character}
use Rattle.inst_base.proofs.TextsAreAscii.{IsAscii-from_each}
use Rattle.inst_settings.specs.Settings.{HubSettings}
use Rattle.inst_settings.specs.Lawful.{AreOfAHub}
use Rattle.inst_json.specs.Lines.{json_of}
use Rattle.inst_json.specs.Replies.{items, members, whole}
use Rattle.inst_json.proofs.LineAsJson.{json_of-value}
use Rattle.inst_json.proofs.TextsWithoutEscapes.{escape-code, escape_plain, each_weaker}
use Rattle.inst_json.proofs.ReplyReadsBack.{ReadsBack, from_parts}
use Rattle.inst_base.specs.Newline.{newline, NoNewline}
use Rattle.inst_json.specs.Members.{is_printable, is_plain_character}
use Rattle.inst_chain.specs.Chain.{IsHexadecimal, is_digest_character}
use Rattle.inst_chain.specs.declared.digest.Digest.{Digest}
use Rattle.inst_books.proofs.EventLineIsPrintable.{Printable, joined}
use Rattle.inst_books.proofs.WrittenEventReadsBack.{quiet}
use Rattle.inst_lines.specs.declared.mode.Mode.{Mode}
use Rattle.inst_lines.specs.declared.mode.Mode.TheVariants.{Run, Play}
use Rattle.inst_logged.specs.declared.version.Version.{Version}
use Rattle.inst_logged.specs.declared.version.Version.TheVariants.{One, Two}
use Rattle.inst_logged.specs.declared.header.Origin.{Origin}
use Rattle.inst_logged.specs.LogHeader.{IsHeaderLine}
use Rattle.inst_logged.specs.Header.{header_line, version_word, header_field, books_field, previous_field, mode_field, participants_field, mode_word, quoted_codes, comma_if, quoted}
use Rattle.inst_logged.specs.inner.LogHeader.{HeaderSays, SaysSettings, version_number}

-- ---- the line as an object

abbrev Row : Type 0
Row = List ℕ × Data

abbrev books_row : Option ℕ → List Row → List Row
books_row None rows = rows
books_row (Some count) rows = (codes "books", whole count) ∷ rows

abbrev previous_row : Option Digest → List Row → List Row
previous_row None rows = rows
previous_row (Some digest) rows = (codes "previous", string digest.text) ∷ rows

abbrev header_data : Version → Mode → HubSettings → Option ℕ → Option Digest → Data
header_data version mode s books previous = object (members (
    (codes "ahead", whole s.ahead)
    ∷ (codes "base", whole s.base)
    ∷ books_row books (
    (codes "ceiling", whole s.ceiling)
    ∷ (codes "fundings", whole s.fundings)
    ∷ (codes "limit", whole s.limit)
    ∷ (codes "log", string (mode_word mode))
    ∷ (codes "margin", whole s.margin)
    ∷ (codes "participants", array (items (map string s.codes)))
    ∷ (codes "places", whole s.places)
    ∷ previous_row previous ((codes "version", whole (version_number version)) ∷ []))))

-- ---- its members

module _ (version : Version) (mode : Mode) (s : HubSettings) where
  settings_said : (books : Option ℕ) (previous : Option Digest) → SaysSettings s (header_data version mode s books previous)
  settings_said None None = record { participants = refl; places = refl; fundings = refl; limit = refl; margin = refl; ahead = refl; ceiling = refl; base = refl }
  settings_said None (Some digest) = record { participants = refl; places = refl; fundings = refl; limit = refl; margin = refl; ahead = refl; ceiling = refl; base = refl }
  settings_said (Some count) None = record { participants = refl; places = refl; fundings = refl; limit = refl; margin = refl; ahead = refl; ceiling = refl; base = refl }
  settings_said (Some count) (Some digest) = record { participants = refl; places = refl; fundings = refl; limit = refl; margin = refl; ahead = refl; ceiling = refl; base = refl }

  header_says : (books : Option ℕ) (previous : Option Digest) → IfSome previous IsHexadecimal → HeaderSays version mode s (record { books = books; previous = previous }) (header_data version mode s books previous)
  header_says None None formed = record { version_is = refl; mode_is = refl; origin_is = record { lines = refl; text = refl; digest = formed }; settings = settings_said None None }
  header_says None (Some digest) formed = record { version_is = refl; mode_is = refl; origin_is = record { lines = refl; text = refl; digest = formed }; settings = settings_said None (Some digest) }
  header_says (Some count) None formed = record { version_is = refl; mode_is = refl; origin_is = record { lines = refl; text = refl; digest = formed }; settings = settings_said (Some count) None }
  header_says (Some count) (Some digest) formed = record { version_is = refl; mode_is = refl; origin_is = record { lines = refl; text = refl; digest = formed }; settings = settings_said (Some count) (Some digest) }

-- ---- its text

listed_text : (later : Bool) (cs : List (List ℕ)) (tail : List ℕ) → list_all is_code cs ≡ true → quoted_codes later cs ++ 93 ∷ tail ≡ items_text later (items (map string cs)) ++ tail
listed_text later [] tail formed = refl
listed_text later (c ∷ cs) tail formed =
    let parts = and_parts (is_code c) (list_all is_code cs) formed in
    let rest : List ℕ = items_text true (items (map string cs)) in
    append_assoc (comma_if later ++ quoted c) (quoted_codes true cs) (93 ∷ tail)
    ∙ ap (λ (l : List ℕ). (comma_if later ++ quoted c) ++ l) (listed_text true cs tail parts.1)
    ∙ ap (λ (l : List ℕ). (comma_if later ++ quoted l) ++ (rest ++ tail)) (sym (escape-code c parts.0))
    ∙ sym (append_assoc (comma_if later ++ quoted (escape c)) rest tail)
    ∙ ap (λ (l : List ℕ). l ++ tail) (append_assoc (comma_if later) (quoted (escape c)) rest)

mode_plain : (mode : Mode) → escape (mode_word mode) ≡ mode_word mode
unfolding escape_byte
mode_plain Run = refl
mode_plain Play = refl

version_text : (version : Version) → version_word version ≡ codes "\"version\":" ++ (decimal (version_number version) ++ 125 ∷ [])
unfolding digits
version_text One = refl
version_text Two = refl

plain_digit : (x : ℕ) → is_digest_character x ≡ true → is_plain_character x ≡ true
plain_digit x h = grind (arith, nat_tests)

digits_of : (digest : Digest) → IsHexadecimal digest → list_all is_digest_character digest.text ≡ true
digits_of digest formed = (and_parts (length digest.text == 64) (list_all is_digest_character digest.text) formed).1

-- a digest stands in quotes as it is
digest_plain : (digest : Digest) → IsHexadecimal digest → escape digest.text ≡ digest.text
digest_plain digest formed = escape_plain digest.text (each_weaker is_digest_character is_plain_character plain_digit digest.text (digits_of digest formed))

-- twelve pieces, one after the other
flat : (a b c d e f g h i j k l : List ℕ) → a ++ b ++ c ++ d ++ e ++ f ++ g ++ h ++ i ++ j ++ k ++ l ≡ a ++ (b ++ (c ++ (d ++ (e ++ (f ++ (g ++ (h ++ (i ++ (j ++ (k ++ l))))))))))
flat a b c d e f g h i j k l = simp append_assoc

module _ (version : Version) (mode : Mode) (s : HubSettings) (formed : list_all is_code s.codes ≡ true) where
  abbrev after_codes : Option Digest → List ℕ
  after_codes previous = codes ",\"places\":" ++ (decimal s.places ++ (previous_field previous ++ 44 ∷ version_word version))

  codes_text : (previous : Option Digest) → (quoted_codes false s.codes ++ 93 ∷ []) ++ after_codes previous ≡ items_text false (items (map string s.codes)) ++ after_codes previous
  codes_text previous = append_assoc (quoted_codes false s.codes) (93 ∷ []) (after_codes previous) ∙ listed_text false s.codes (after_codes previous) formed

  pieces : (books : Option ℕ) (previous : Option Digest) → header_line version mode s (record { books = books; previous = previous }) ≡ header_field (codes "{\"ahead\":") s.ahead
      ++ (header_field (codes ",\"base\":") s.base ++ (books_field books ++ (header_field (codes ",\"ceiling\":") s.ceiling ++ (header_field (codes ",\"fundings\":") s.fundings ++ (header_field (codes ",\"limit\":") s.limit
      ++ (mode_field mode ++ (header_field (codes ",\"margin\":") s.margin ++ (participants_field s.codes ++ (header_field (codes ",\"places\":") s.places ++ (previous_field previous ++ 44 ∷ version_word version))))))))))
  pieces books previous =
      flat (header_field (codes "{\"ahead\":") s.ahead) (header_field (codes ",\"base\":") s.base) (books_field books) (header_field (codes ",\"ceiling\":") s.ceiling) (header_field (codes ",\"fundings\":") s.fundings)
      (header_field (codes ",\"limit\":") s.limit) (mode_field mode) (header_field (codes ",\"margin\":") s.margin) (participants_field s.codes) (header_field (codes ",\"places\":") s.places) (previous_field previous) (44 ∷ version_word version)

  line_is : (books : Option ℕ) (previous : Option Digest) → IfSome previous IsHexadecimal → header_line version mode s (record { books = books; previous = previous }) ≡ compact_text (header_data version mode s books previous)
  unfolding serde_json_on_literals
  line_is None None hex = pieces None None ∙ rw (codes_text None, version_text version, mode_plain mode) refl
  line_is None (Some digest) hex = pieces None (Some digest) ∙ rw (codes_text (Some digest), version_text version, mode_plain mode, digest_plain digest hex) refl
  line_is (Some count) None hex = pieces (Some count) None ∙ rw (codes_text None, version_text version, mode_plain mode) refl
  line_is (Some count) (Some digest) hex = pieces (Some count) (Some digest) ∙ rw (codes_text (Some digest), version_text version, mode_plain mode, digest_plain digest hex) refl

-- ---- it reads back

abbrev IsSmall : ℕ → Type 0
IsSmall n = n < 2 ^ 64

texts_numbers : (texts : List (List ℕ)) → tree.ItemsHaveNumbers (items_outline (items (map string texts)))
texts_numbers [] = tt
texts_numbers (text ∷ texts) = (tt, texts_numbers texts)

texts_again : (texts : List (List ℕ)) → of_items (items_outline (items (map string texts))) ≡ Some (items (map string texts))
texts_again [] = refl
texts_again (text ∷ texts) = rw (texts_again texts) refl

texts_depth : (texts : List (List ℕ)) → tree.items_depth (items_outline (items (map string texts))) ≡ 0
texts_depth [] = refl
texts_depth (text ∷ texts) = omega (arith, texts_depth texts)

version_small : (version : Version) → IsSmall (version_number version)
version_small One = omega arith
version_small Two = omega arith

module _ (version : Version) (mode : Mode) (s : HubSettings) (of : AreOfAHub s) where
  ahead : IsSmall s.ahead
  ahead = omega (arith, of.lawful.ahead_most)

  base : IsSmall s.base
  base = omega (arith, of.lawful.base_most)

  ceiling : IsSmall s.ceiling
  ceiling = omega (arith, of.lawful.ceiling_most)

  fundings : IsSmall s.fundings
  fundings = omega (arith, of.lawful.fundings_most)

  limit : IsSmall s.limit
  limit = omega (arith, of.lawful.limit_most)

  margin : IsSmall s.margin
  margin = omega (arith, of.lawful.limit_most, of.lawful.margin_below)

  places : IsSmall s.places
  places = omega (arith, of.lawful.places_most)

  told : IsSmall (version_number version)
  told = version_small version

  last_numbers : (previous : Option Digest) → tree.MembersHaveNumbers (members_outline (members (previous_row previous ((codes "version", whole (version_number version)) ∷ []))))
  last_numbers None = (IsNumber-decimal (version_number version) told, tt)
  last_numbers (Some digest) = (tt, (IsNumber-decimal (version_number version) told, tt))

  data_numbers : (books : Option ℕ) (previous : Option Digest) → IfSome books IsSmall → tree.HasNumbers (outline (header_data version mode s books previous))
  data_numbers None previous small = (IsNumber-decimal s.ahead ahead, (IsNumber-decimal s.base base, (IsNumber-decimal s.ceiling ceiling, (IsNumber-decimal s.fundings fundings, (IsNumber-decimal s.limit limit, (tt, (IsNumber-decimal s.margin margin, (texts_numbers s.codes, (IsNumber-decimal s.places places, last_numbers previous)))))))))
  data_numbers (Some count) previous small = (IsNumber-decimal s.ahead ahead, (IsNumber-decimal s.base base, (IsNumber-decimal count small, (IsNumber-decimal s.ceiling ceiling, (IsNumber-decimal s.fundings fundings, (IsNumber-decimal s.limit limit, (tt, (IsNumber-decimal s.margin margin, (texts_numbers s.codes, (IsNumber-decimal s.places places, last_numbers previous))))))))))

  data_again : (books : Option ℕ) (previous : Option Digest) → IfSome books IsSmall → of_json (outline (header_data version mode s books previous)) ≡ Some (header_data version mode s books previous)
  unfolding serde_json_on_literals
  data_again None None small = rw (
    number_of-decimal s.ahead ahead,
    number_of-decimal s.base base,
    number_of-decimal s.ceiling ceiling,
    number_of-decimal s.fundings fundings,
    number_of-decimal s.limit limit,
    number_of-decimal s.margin margin,
    texts_again s.codes,
    number_of-decimal s.places places,
    number_of-decimal (version_number version) told,
  ) refl
  data_again None (Some digest) small = rw (
    number_of-decimal s.ahead ahead,
    number_of-decimal s.base base,
    number_of-decimal s.ceiling ceiling,
    number_of-decimal s.fundings fundings,
    number_of-decimal s.limit limit,
    number_of-decimal s.margin margin,
    texts_again s.codes,
    number_of-decimal s.places places,
    number_of-decimal (version_number version) told,
  ) refl
  data_again (Some count) None small = rw (
    number_of-decimal s.ahead ahead,
    number_of-decimal s.base base,
    number_of-decimal count small,
    number_of-decimal s.ceiling ceiling,
    number_of-decimal s.fundings fundings,
    number_of-decimal s.limit limit,
    number_of-decimal s.margin margin,
    texts_again s.codes,
    number_of-decimal s.places places,
    number_of-decimal (version_number version) told,
  ) refl
  data_again (Some count) (Some digest) small = rw (
    number_of-decimal s.ahead ahead,
    number_of-decimal s.base base,
    number_of-decimal count small,
    number_of-decimal s.ceiling ceiling,
    number_of-decimal s.fundings fundings,
    number_of-decimal s.limit limit,
    number_of-decimal s.margin margin,
    texts_again s.codes,
    number_of-decimal s.places places,
    number_of-decimal (version_number version) told,
  ) refl

  data_shallow : (books : Option ℕ) (previous : Option Digest) → tree.depth (outline (header_data version mode s books previous)) ≤ 3
  data_shallow None None = omega (arith, texts_depth s.codes)
  data_shallow None (Some digest) = omega (arith, texts_depth s.codes)
  data_shallow (Some count) None = omega (arith, texts_depth s.codes)
  data_shallow (Some count) (Some digest) = omega (arith, texts_depth s.codes)

  data_reads : (books : Option ℕ) (previous : Option Digest) → IfSome books IsSmall → ReadsBack (header_data version mode s books previous)
  data_reads books previous small = record { numbers = data_numbers books previous small; again = data_again books previous small; shallow = data_shallow books previous }

-- ---- its bytes

printed_character : (x : ℕ) → is_code_character x ≡ true → is_printable x ≡ true
printed_character x h = grind (arith, nat_tests)

printed_digit : (x : ℕ) → is_digest_character x ≡ true → is_printable x ≡ true
printed_digit x h = grind (arith, nat_tests)

digit : (d : ℕ) → d < 10 → is_printable (digit_glyph false d) ≡ true
digit d h = grind (arith, nat_tests)

onto : (k n : ℕ) (acc : List ℕ) → Printable acc → Printable (digits_onto k 10 false n acc)
onto zero n acc h = h
onto (suc k) n acc h =
    let last = digit (n % 10) (omega arith) in
    elim (n / 10 == 0) as (λ b. Printable (cond b (digit_glyph false (n % 10) ∷ acc) (digits_onto k 10 false (n / 10) (digit_glyph false (n % 10) ∷ acc)))) [
      | true ↦ rw (last, h) refl
      | false ↦ onto k (n / 10) (digit_glyph false (n % 10) ∷ acc) (rw (last, h) refl)
    ]

printed : (name : List ℕ) (n : ℕ) → Printable name → Printable (header_field name n)
unfolding digits
printed name n h = joined name (decimal n) h (onto 64 n [] refl)

printed_books : (books : Option ℕ) → Printable (books_field books)
printed_books None = refl
printed_books (Some count) = printed (codes ",\"books\":") count refl

printed_previous : (previous : Option Digest) → IfSome previous IsHexadecimal → Printable (previous_field previous)
printed_previous None formed = refl
printed_previous (Some digest) formed =
    joined (codes ",\"previous\":\"") (digest.text ++ 34 ∷ []) refl (joined digest.text (34 ∷ []) (each_weaker is_digest_character is_printable printed_digit digest.text (digits_of digest formed)) refl)

printed_mode : (mode : Mode) → Printable (mode_field mode)
printed_mode Run = refl
printed_mode Play = refl

printed_version : (version : Version) → Printable (44 ∷ version_word version)
printed_version One = refl
printed_version Two = refl

printed_comma : (later : Bool) → Printable (comma_if later)
printed_comma true = refl
printed_comma false = refl

printed_codes : (later : Bool) (cs : List (List ℕ)) → list_all is_code cs ≡ true → Printable (quoted_codes later cs)
printed_codes later [] formed = refl
printed_codes later (c ∷ cs) formed =
    let parts = and_parts (is_code c) (list_all is_code cs) formed in
    let code : Printable c = each_weaker is_code_character is_printable printed_character c (and_parts (length c == 8 || length c == 11) (list_all is_code_character c) parts.0).1 in
    joined (comma_if later ++ quoted c) (quoted_codes true cs) (joined (comma_if later) (quoted c) (printed_comma later) (joined c (34 ∷ []) code refl)) (printed_codes true cs parts.1)

printed_participants : (cs : List (List ℕ)) → list_all is_code cs ≡ true → Printable (participants_field cs)
printed_participants cs formed =
    joined (codes ",\"participants\":[" ++ quoted_codes false cs) (codes "]") (joined (codes ",\"participants\":[") (quoted_codes false cs) refl (printed_codes false cs formed)) refl

pub line_printed : (version : Version) (mode : Mode) (s : HubSettings) (origin : Origin) → list_all is_code s.codes ≡ true → IfSome origin.previous IsHexadecimal → Printable (header_line version mode s origin)
line_printed version mode s origin formed hex =
    let x1 : List ℕ = header_field (codes "{\"ahead\":") s.ahead in
    let x2 = x1 ++ header_field (codes ",\"base\":") s.base in
    let x3 = x2 ++ books_field origin.books in
    let x4 = x3 ++ header_field (codes ",\"ceiling\":") s.ceiling in
    let x5 = x4 ++ header_field (codes ",\"fundings\":") s.fundings in
    let x6 = x5 ++ header_field (codes ",\"limit\":") s.limit in
    let x7 = x6 ++ mode_field mode in
    let x8 = x7 ++ header_field (codes ",\"margin\":") s.margin in
    let x9 = x8 ++ participants_field s.codes in
    let x10 = x9 ++ header_field (codes ",\"places\":") s.places in
    let x11 = x10 ++ previous_field origin.previous in
    joined x11 (44 ∷ version_word version) (
    joined x10 (previous_field origin.previous) (
    joined x9 (header_field (codes ",\"places\":") s.places) (
    joined x8 (participants_field s.codes) (
    joined x7 (header_field (codes ",\"margin\":") s.margin) (
    joined x6 (mode_field mode) (
    joined x5 (header_field (codes ",\"limit\":") s.limit) (
    joined x4 (header_field (codes ",\"fundings\":") s.fundings) (
    joined x3 (header_field (codes ",\"ceiling\":") s.ceiling) (
    joined x2 (books_field origin.books) (
    joined x1 (header_field (codes ",\"base\":") s.base)
    (printed (codes "{\"ahead\":") s.ahead refl) (printed (codes ",\"base\":") s.base refl))
    (printed_books origin.books)) (printed (codes ",\"ceiling\":") s.ceiling refl)) (printed (codes ",\"fundings\":") s.fundings refl)) (printed (codes ",\"limit\":") s.limit refl))
    (printed_mode mode)) (printed (codes ",\"margin\":") s.margin refl)) (printed_participants s.codes formed)) (printed (codes ",\"places\":") s.places refl)) (printed_previous origin.previous hex)) (printed_version version)

low : (x : ℕ) → is_printable x ≡ true → x < 128
low x h = grind (arith, nat_tests)

abbrev as_json : Option Value → Result Data Fault
as_json read = ok_or (option_map view read) NotJson

-- what is read of a first line whose newline is gone
module _ (version : Version) (mode : Mode) (s : HubSettings) (origin : Origin) {bytes line : List ℕ} (first : IsHeaderLine version mode s origin bytes)
    (bare : (text : List ℕ) → NoNewline text → (bytes ≡ text) ⊎ (bytes ≡ text ++ newline ∷ []) → line ≡ text) where
  pub bare_line : line ≡ header_line version mode s origin
  bare_line =
      let text = header_line version mode s origin in
      bare text (quiet text (line_printed version mode s origin first.settings.codes_formed first.digest)) first.line

  its_json : Ok (header_data version mode s origin.books origin.previous) ≡ json_of line
  its_json =
      let text = header_line version mode s origin in
      let d = header_data version mode s origin.books origin.previous in
      let formed = first.settings.codes_formed in
      let utf8 : IsUtf8 text = IsUtf8-from_ascii text (IsAscii-from_each is_printable low text (line_printed version mode s origin formed first.digest)) in
      let again : read text ≡ Some d = ap read (line_is version mode s formed origin.books origin.previous first.digest) ∙ from_parts d (data_reads version mode s first.settings origin.books origin.previous first.word) in
      json_of-value text d utf8 again ∙ ap json_of (sym bare_line)

  pub says : (read : Option Value) (value : Value) → as_json read ≡ json_of line → read ≡ Some value → HeaderSays version mode s origin (view value)
  says read value json is =
      let same : Ok (header_data version mode s origin.books origin.previous) ≡ Ok (view value) = its_json ∙ sym json ∙ ap as_json is in
      let here : header_data version mode s origin.books origin.previous ≡ view value = cc same in
      subst (HeaderSays version mode s origin) here (header_says version mode s origin.books origin.previous first.digest)

  pub no_json : (read : Option Value) → as_json read ≡ json_of line → read ≡ None → ⊥
  no_json read json is =
      let same : Ok (header_data version mode s origin.books origin.previous) ≡ Err NotJson = its_json ∙ sym json ∙ ap as_json is in
      cc same

-- ---- codes that are read one by one

-- these codes were found, and the values have the others
pub record CodesLeft (named found : List (List ℕ)) (values : List Value) : Type 0 where
  pub rest : List (List ℕ)
  pub formed : list_all is_code rest ≡ true
  pub view_is : items_view values ≡ items (map string rest)
  pub split : found ++ rest ≡ named

pub all_left : (named : List (List ℕ)) (values : List Value) → list_all is_code named ≡ true → items_view values ≡ items (map string named) → CodesLeft named [] values
all_left named values formed is = record { rest = named; formed = formed; view_is = is; split = refl }

-- what is read of a value
abbrev pub ReadsCode : Value → Option (List ℕ) → Type 0
ReadsCode value read = (code : List ℕ) → is_code code ≡ true → view value ≡ string code → read ≡ Some code

first_left : (value : Value) (values : List Value) (rest : List (List ℕ)) → list_all is_code rest ≡ true → items_view (value ∷ values) ≡ items (map string rest)
    → (code : List ℕ) × (others : List (List ℕ)) × (rest ≡ code ∷ others) × (is_code code ≡ true) × (list_all is_code others ≡ true) × (view value ≡ string code) × (items_view values ≡ items (map string others))
first_left value values [] formed is = absurd (cc is)
first_left value values (code ∷ others) formed is =
    let parts = and_parts (is_code code) (list_all is_code others) formed in
    let here : view value ≡ string code = cc is in
    let later : items_view values ≡ items (map string others) = cc is in
    (code, others, refl, parts.0, parts.1, here, later)

pub none_read : (named found : List (List ℕ)) (value : Value) (values : List Value) (read : Option (List ℕ)) → CodesLeft named found (value ∷ values) → ReadsCode value read → read ≡ None → ⊥
none_read named found value values read left reads none =
    let (code, others, same, formed, more, here, later) = first_left value values left.rest left.formed left.view_is in
    let one : Some code ≡ None = sym (reads code formed here) ∙ none in
    cc one

pub one_read : (named found : List (List ℕ)) (value : Value) (values : List Value) (read : Option (List ℕ)) (code : List ℕ) → CodesLeft named found (value ∷ values) → ReadsCode value read → read ≡ Some code
    → CodesLeft named (found ++ code ∷ []) values
one_read named found value values read code left reads some =
    let (first, others, same, formed, more, here, later) = first_left value values left.rest left.formed left.view_is in
    let one : Some first ≡ Some code = sym (reads first formed here) ∙ some in
    let is : first ≡ code = cc one in record {
      rest = others;
      formed = more;
      view_is = later;
      split = append_assoc found (code ∷ []) others ∙ ap (λ (c : List ℕ). found ++ c ∷ others) (sym is) ∙ ap (λ (l : List (List ℕ)). found ++ l) (sym same) ∙ left.split;
    }

pub all_read : (named found : List (List ℕ)) → CodesLeft named found [] → found ≡ named
all_read named found left = sym (append-nil found) ∙ ap (λ (l : List (List ℕ)). found ++ l) (sym (none_more left.rest left.view_is)) ∙ left.split
  where
    none_more : (rest : List (List ℕ)) → items_view [] ≡ items (map string rest) → rest ≡ []
    none_more [] is = refl
    none_more (code ∷ rest) is = absurd (cc is)

-- ---- a line without its newline

quiet_end : (text : List ℕ) → NoNewline (text ++ newline ∷ []) → ⊥
quiet_end [] quiet = quiet.0 refl
quiet_end (b ∷ text) quiet = quiet_end text quiet.1

abbrev ends : List ℕ → Bool
ends line = bytes_eq (drop (length line - 1) line) (newline ∷ [])

ends_so : (text : List ℕ) → ends (text ++ newline ∷ []) ≡ true
ends_so text =
    let size : length (text ++ newline ∷ []) - 1 ≡ length text = omega (arith, length-append text (newline ∷ [])) in
    ap (λ (n : ℕ). bytes_eq (drop n (text ++ newline ∷ [])) (newline ∷ [])) size ∙ ap (λ (l : List ℕ). bytes_eq l (newline ∷ [])) (drop-append_seam text (newline ∷ []))

not_so : (text : List ℕ) → NoNewline text → ends text ≡ true → ⊥
not_so text quiet so =
    let last : drop (length text - 1) text ≡ newline ∷ [] = (bytes_eq-Decides (drop (length text - 1) text) (newline ∷ [])).0 so in
    let split : text ≡ take (length text - 1) text ++ newline ∷ [] = sym (take-append-drop (length text - 1) text) ∙ ap (λ (l : List ℕ). take (length text - 1) text ++ l) last in
    quiet_end (take (length text - 1) text) (subst NoNewline split quiet)

module _ {R : Type 0} (now : R → List ℕ) (line : R) (text : List ℕ) (quiet : NoNewline text) where
  pub stripped : (found : Option R) → MatchOption found (ends (now line) ≡ false) (λ x. (ends (now line) ≡ true) × (now x ≡ take (length (now line) - 1) (now line)) × (length (now x) + 1 ≡ length (now line)))
      → (now line ≡ text) ⊎ (now line ≡ text ++ newline ∷ []) → now (unwrap_or found line) ≡ text
  stripped None cases (inl is) = is
  stripped None cases (inr is) = absurd (true≢false (sym (ap ends is ∙ ends_so text) ∙ cases))
  stripped (Some x) cases (inl is) = absurd (not_so text quiet (sym (ap ends is) ∙ cases.0))
  stripped (Some x) cases (inr is) =
      let size : length (now line) - 1 ≡ length text = omega (arith, ap length is, length-append text (newline ∷ [])) in
      cases.1 ∙ ap (λ (n : ℕ). take n (now line)) size ∙ ap (take (length text)) is ∙ take-append_seam text (newline ∷ [])

-- ---- a text beside itself

pub itself : (a : List ℕ) → bytes_eq a a ≡ true
itself a = decided (bytes_eq a a) refl
  where
    decided : (t : Bool) → bytes_eq a a ≡ t → bytes_eq a a ≡ true
    decided true is = is
    decided false is = absurd (not_from_Decides (bytes_eq a a) (bytes_eq-Decides a a) is refl)

-- texts that are the same do not differ
pub alike : (a b : List ℕ) → a ≡ b → not (bytes_eq a b) ≡ true → ⊥
alike a b same differ = true≢false (sym differ ∙ ap not (ap (bytes_eq a) (sym same) ∙ itself a))
