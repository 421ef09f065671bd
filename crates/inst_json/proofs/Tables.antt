-- Tables of members: their text, that each byte of it is printable, and that it is read as the table.
use Rattle.std.proofs.Common.{◌≡◌, ℕ, ◌<◌, Bool, true, false, true≢false, ◌&&◌, List, [], ◌∷◌, ◌++◌, Some, option_map, option_and_then, refl, sym, ap, ◌∙◌, arith, append_assoc, decimal, zero, suc, ◌/◌, ◌%◌, ◌==◌, cond}
use Rattle.std.proofs.lemmas.Bool.{and_parts}
use Rattle.std.proofs.lemmas.Bool.Decides.{nat_tests}
use Rattle.std.proofs.lemmas.List.{append-nil}
use Rattle.std.proofs.lemmas.List.Folds.{list_all-append}
use Rattle.std.specs.Fmt.{digits, digits_onto, digit_glyph}
use Rattle.std.specs.List.{list_all}
use Rattle.json.specs.Print.{quoted, escape}
use Rattle.json.specs.Tree as tree
use Rattle.json.proofs.Printed.Decimals.{IsNumber-decimal}
use Rattle.serde_json.specs.Data.{Data, null, boolean, number, string, array, object, Num, unsigned, negative, float, Members, no_members, put}
use Rattle.serde_json.specs.Read.{read, of_json, of_members}
use Rattle.serde_json.specs.Written.{compact_text, members_text, comma_if, outline, members_outline}
use Rattle.inst_json.specs.Laws.{is_word}
use Rattle.inst_json.specs.Members.{is_printable, is_plain_character, is_plain, first_member, next_member, next_members}
use Rattle.inst_json.specs.Replies.{members}
use Rattle.inst_json.specs.StepLines.{members_line}
use Rattle.inst_json.proofs.TextsWithoutEscapes.{escape_plain, each_weaker}
use Rattle.inst_json.proofs.ReplyTexts.{one_more}
use Rattle.inst_json.proofs.ReplyReadsBack.{from_parts, read_word, word_below}

-- ---- the text

-- a comma or an opening brace, a name with its colon, and a value
pub member_is : (old name value : List ℕ) (mark : ℕ) {first second last : List ℕ} → first ≡ old ++ mark ∷ [] → second ≡ first ++ (quoted name ++ 58 ∷ []) → last ≡ second ++ value → last ≡ old ++ mark ∷ (quoted name ++ 58 ∷ value)
member_is old name value mark one two three =
    one_more old (mark ∷ (quoted name ++ 58 ∷ [])) value (one_more old (mark ∷ []) (quoted name ++ 58 ∷ []) one two) three
    ∙ ap (λ (t : List ℕ). old ++ mark ∷ t) (append_assoc (quoted name) (58 ∷ []) value)

pub next_members-append : (rows : List (List ℕ × Data)) (row : List ℕ × Data) → next_members (rows ++ row ∷ []) ≡ next_members rows ++ next_member row.0 row.1
next_members-append [] row = append-nil (next_member row.0 row.1)
next_members-append (first ∷ rows) row =
    ap (λ (t : List ℕ). next_member first.0 first.1 ++ t) (next_members-append rows row) ∙ sym (append_assoc (next_member first.0 first.1) (next_members rows) (next_member row.0 row.1))

members_are : (rows : List (List ℕ × Data)) → next_members rows ++ 125 ∷ [] ≡ members_text true (members rows)
unfolding next_member
members_are [] = refl
members_are (row ∷ rows) =
    let name = quoted row.0 in
    let value = compact_text row.1 in
    ap (λ (t : List ℕ). 44 ∷ t) (append_assoc (name ++ 58 ∷ value) (next_members rows) (125 ∷ []) ∙ append_assoc name (58 ∷ value) (next_members rows ++ 125 ∷ [])
    ∙ ap (λ (t : List ℕ). name ++ 58 ∷ (value ++ t)) (members_are rows))

-- the first member, others and the closing brace
pub object_is : (row : List ℕ × Data) (rows : List (List ℕ × Data)) → first_member row.0 row.1 ++ (next_members rows ++ 125 ∷ []) ≡ members_line (row ∷ rows)
unfolding first_member members_line
object_is row rows =
    let name = quoted row.0 in
    let value = compact_text row.1 in
    ap (λ (t : List ℕ). 123 ∷ t) (append_assoc name (58 ∷ value) (next_members rows ++ 125 ∷ []) ∙ ap (λ (t : List ℕ). name ++ 58 ∷ (value ++ t)) (members_are rows))

-- the first member, others put after it, and the closing brace
pub whole_line : (old : List ℕ) (row : List ℕ × Data) (rows : List (List ℕ × Data)) {begun all closed : List ℕ} → begun ≡ old ++ first_member row.0 row.1 → all ≡ begun ++ next_members rows → closed ≡ all ++ 125 ∷ [] → closed ≡ old ++ members_line (row ∷ rows)
whole_line old row rows one two three =
    let first = first_member row.0 row.1 in
    let rest = next_members rows in
    one_more old (first ++ rest) (125 ∷ []) (one_more old first rest one two) three
    ∙ ap (λ (t : List ℕ). old ++ t) (append_assoc first rest (125 ∷ []) ∙ object_is row rows)

-- one member more after others
pub one_member : (old : List ℕ) (rows : List (List ℕ × Data)) (row : List ℕ × Data) {before after : List ℕ} → before ≡ old ++ next_members rows → after ≡ before ++ next_member row.0 row.1 → after ≡ old ++ next_members (rows ++ row ∷ [])
one_member old rows row one two =
    one_more old (next_members rows) (next_member row.0 row.1) one two ∙ ap (λ (t : List ℕ). old ++ t) (sym (next_members-append rows row))

-- a member alone
pub first_of : (old : List ℕ) (row : List ℕ × Data) {after : List ℕ} → after ≡ old ++ next_member row.0 row.1 → after ≡ old ++ next_members (row ∷ [])
first_of old row is = is ∙ ap (λ (t : List ℕ). old ++ t) (sym (append-nil (next_member row.0 row.1)))

-- four members and the closing brace
pub four_line : (old : List ℕ) (first second third fourth : List ℕ × Data) {one two three four closed : List ℕ} → one ≡ old ++ first_member first.0 first.1 → two ≡ one ++ next_member second.0 second.1 → three ≡ two ++ next_member third.0 third.1
    → four ≡ three ++ next_member fourth.0 fourth.1 → closed ≡ four ++ 125 ∷ [] → closed ≡ old ++ members_line (first ∷ second ∷ third ∷ fourth ∷ [])
four_line old first second third fourth {one} a b c d e =
    let all = one_member one (second ∷ third ∷ []) fourth (one_member one (second ∷ []) third (first_of one second b) c) d in
    whole_line old first (second ∷ third ∷ fourth ∷ []) a all e

-- ---- each byte is printable

abbrev pub Printable : List ℕ → Type 0
Printable text = list_all is_printable text ≡ true

joined : (a b : List ℕ) → Printable a → Printable b → Printable (a ++ b)
joined a b ha hb = list_all-append is_printable a b ∙ rw (ha, hb) refl

plain_printable : (x : ℕ) → is_plain_character x ≡ true → is_printable x ≡ true
plain_printable x h = grind (arith, nat_tests)

digit : (d : ℕ) → d < 10 → is_printable (digit_glyph false d) ≡ true
digit d h = grind (arith, nat_tests)

onto : (k n : ℕ) (acc : List ℕ) → Printable acc → Printable (digits_onto k 10 false n acc)
onto zero n acc h = h
onto (suc k) n acc h =
    let last = digit (n % 10) (omega arith) in
    elim (n / 10 == 0) as (λ b. Printable (cond b (digit_glyph false (n % 10) ∷ acc) (digits_onto k 10 false (n / 10) (digit_glyph false (n % 10) ∷ acc)))) [
      | true ↦ rw (last, h) refl
      | false ↦ onto k (n / 10) (digit_glyph false (n % 10) ∷ acc) (rw (last, h) refl)
    ]

digits_printable : (n : ℕ) → Printable (decimal n)
unfolding digits
digits_printable n = onto 64 n [] refl

quoted_printable : (text : List ℕ) → is_plain text ≡ true → Printable (quoted text)
quoted_printable text h =
    joined (escape text) (34 ∷ []) (ap (list_all is_printable) (escape_plain text h) ∙ each_weaker is_plain_character is_printable plain_printable text h) refl

-- whether a value is a plain text or a whole number
abbrev pub number_is_whole : Num → Bool
number_is_whole (unsigned n) = true
number_is_whole (negative z) = false
number_is_whole (float x) = false

abbrev pub value_is_plain : Data → Bool
value_is_plain null = false
value_is_plain (boolean b) = false
value_is_plain (number n) = number_is_whole n
value_is_plain (string text) = is_plain text
value_is_plain (array items) = false
value_is_plain (object rows) = false

abbrev pub row_is_plain : List ℕ × Data → Bool
row_is_plain row = is_plain row.0 && value_is_plain row.1

abbrev pub ArePlain : List (List ℕ × Data) → Type 0
ArePlain rows = list_all row_is_plain rows ≡ true

value_printable : (d : Data) → value_is_plain d ≡ true → Printable (compact_text d)
value_printable null h = absurd (true≢false (sym h))
value_printable (boolean b) h = absurd (true≢false (sym h))
value_printable (number (unsigned n)) h = digits_printable n
value_printable (number (negative z)) h = absurd (true≢false (sym h))
value_printable (number (float x)) h = absurd (true≢false (sym h))
value_printable (string text) h = quoted_printable text h
value_printable (array items) h = absurd (true≢false (sym h))
value_printable (object rows) h = absurd (true≢false (sym h))

comma_printable : (later : Bool) → Printable (comma_if later)
comma_printable true = refl
comma_printable false = refl

members_printable : (later : Bool) (rows : List (List ℕ × Data)) → ArePlain rows → Printable (members_text later (members rows))
members_printable later [] h = refl
members_printable later (row ∷ rows) h =
    let parts = and_parts (row_is_plain row) (list_all row_is_plain rows) h in
    let first = and_parts (is_plain row.0) (value_is_plain row.1) parts.0 in
    let value = compact_text row.1 in
    let rest = members_text true (members rows) in
    joined (comma_if later) (quoted row.0 ++ 58 ∷ (value ++ rest)) (comma_printable later)
    (joined (quoted row.0) (58 ∷ (value ++ rest)) (quoted_printable row.0 first.0) (joined value rest (value_printable row.1 first.1) (members_printable true rows parts.1)))

pub line_printable : (rows : List (List ℕ × Data)) → ArePlain rows → Printable (members_line rows)
unfolding members_line
line_printable rows h = members_printable false rows h

-- ---- the text is read as the table

-- whether a value is a text or a whole number of 64 bits
abbrev pub number_is_word : Num → Bool
number_is_word (unsigned n) = is_word n
number_is_word (negative z) = false
number_is_word (float x) = false

abbrev pub value_is_word : Data → Bool
value_is_word null = false
value_is_word (boolean b) = false
value_is_word (number n) = number_is_word n
value_is_word (string text) = true
value_is_word (array items) = false
value_is_word (object rows) = false

abbrev pub row_is_word : List ℕ × Data → Bool
row_is_word row = value_is_word row.1

abbrev pub AreWords : List (List ℕ × Data) → Type 0
AreWords rows = list_all row_is_word rows ≡ true

value_numbers : (d : Data) → value_is_word d ≡ true → tree.HasNumbers (outline d)
value_numbers null h = absurd (true≢false (sym h))
value_numbers (boolean b) h = absurd (true≢false (sym h))
value_numbers (number (unsigned n)) h = IsNumber-decimal n (word_below n h)
value_numbers (number (negative z)) h = absurd (true≢false (sym h))
value_numbers (number (float x)) h = absurd (true≢false (sym h))
value_numbers (string text) h = tt
value_numbers (array items) h = absurd (true≢false (sym h))
value_numbers (object rows) h = absurd (true≢false (sym h))

value_again : (d : Data) → value_is_word d ≡ true → of_json (outline d) ≡ Some d
value_again null h = absurd (true≢false (sym h))
value_again (boolean b) h = absurd (true≢false (sym h))
value_again (number (unsigned n)) h = ap (option_map number) (read_word n h)
value_again (number (negative z)) h = absurd (true≢false (sym h))
value_again (number (float x)) h = absurd (true≢false (sym h))
value_again (string text) h = refl
value_again (array items) h = absurd (true≢false (sym h))
value_again (object rows) h = absurd (true≢false (sym h))

value_depth : (d : Data) → value_is_word d ≡ true → tree.depth (outline d) ≡ 0
value_depth null h = absurd (true≢false (sym h))
value_depth (boolean b) h = absurd (true≢false (sym h))
value_depth (number n) h = refl
value_depth (string text) h = refl
value_depth (array items) h = absurd (true≢false (sym h))
value_depth (object rows) h = absurd (true≢false (sym h))

members_numbers : (rows : List (List ℕ × Data)) → AreWords rows → tree.MembersHaveNumbers (members_outline (members rows))
members_numbers [] h = tt
members_numbers (row ∷ rows) h =
    let parts = and_parts (row_is_word row) (list_all row_is_word rows) h in
    (value_numbers row.1 parts.0, members_numbers rows parts.1)

members_depth : (rows : List (List ℕ × Data)) → AreWords rows → tree.members_depth (members_outline (members rows)) ≡ 0
members_depth [] h = refl
members_depth (row ∷ rows) h =
    let parts = and_parts (row_is_word row) (list_all row_is_word rows) h in
    omega (arith, value_depth row.1 parts.0, members_depth rows parts.1)

-- the members put in one after another
abbrev pub put_all : List (List ℕ × Data) → Members → Members
put_all [] found = found
put_all (row ∷ rows) found = put_all rows (put row.0 row.1 found)

members_again : (rows : List (List ℕ × Data)) (found : Members) → AreWords rows → of_members (members_outline (members rows)) found ≡ Some (put_all rows found)
members_again [] found h = refl
members_again (row ∷ rows) found h =
    let parts = and_parts (row_is_word row) (list_all row_is_word rows) h in
    ap (option_and_then (λ d. of_members (members_outline (members rows)) (put row.0 d found))) (value_again row.1 parts.0) ∙ members_again rows (put row.0 row.1 found) parts.1

-- the members are in the order of their names, and no name is there twice
abbrev pub AreSorted : List (List ℕ × Data) → Type 0
AreSorted rows = put_all rows no_members ≡ members rows

pub line_reads : (rows : List (List ℕ × Data)) → AreWords rows → AreSorted rows → read (members_line rows) ≡ Some (object (members rows))
unfolding members_line
line_reads rows words sorted =
    from_parts (object (members rows)) (record {
      numbers = members_numbers rows words;
      again = ap (option_map object) (members_again rows no_members words ∙ ap (λ m. Some m) sorted);
      shallow = omega (arith, members_depth rows words);
    })
