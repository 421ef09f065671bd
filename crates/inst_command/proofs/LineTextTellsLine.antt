-- A statement line's text tells the line: its columns can be cut apart and read back.
use Rattle.std.proofs.Common.{◌≡◌, ℕ, zero, suc, ◌+◌, ◌-◌, ◌<◌, ◌≤◌, ◌^◌, ◌==◌, ◌||◌, true, true≢false, cond, nat_lt, nat_le, Option, None, Some, List, [], ◌∷◌, ◌++◌, length, take, drop, replicate, slice_get, unwrap_or, refl, sym, ap, subst, ◌∙◌, arith, codes, decimal}
use Rattle.std.proofs.Math.Seq.{take-append_seam, drop-append_seam}
use Rattle.std.proofs.lemmas.Bool.{and_parts, ne_eqb}
use Rattle.std.proofs.lemmas.Bool.Decides.{nat_tests}
use Rattle.std.proofs.lemmas.Fmt.{decimal_injective, decimal_is_IsNumeral, length-decimal-le}
use Rattle.std.proofs.lemmas.List.{length-append, length-replicate}
use Rattle.std.specs.Char.{digit_value}
use Rattle.std.specs.List.{list_all}
use Rattle.std.specs.Str.Parse.{IsNumeral}
use Rattle.inst_base.specs.Text.{is_code, is_code_character}
use Rattle.inst_settings.specs.Settings.{HubSettings, same_text, is_participant}
use Rattle.inst_settings.specs.Lawful.{IsSettings}
use Rattle.inst_settings.proofs.CodeTellsNumber.{number_of_code, number_of_code-at}
use Rattle.inst_command.specs.Laws.{IsLineOf, IsSameButForSpaces}
use Rattle.inst_command.specs.LineText.{left_in, right_in, kind_name, other_code, code_numbered, other_fits, last_number, line_text}
use Rattle.inst_command.specs.declared.line.LineKind.{LineKind}
use Rattle.inst_command.specs.declared.line.LineKind.TheVariants.{Funded, Defunded, Received, Paid}
use Rattle.inst_command.specs.declared.line.Line.{Line}
use Rattle.inst_command.proofs.ColumnWidths.{identifier_form, columns_are}

-- ---- columns

-- texts whose first columns have one width
columns_apart : (xs ys us vs : List ℕ) → length xs ≡ length ys → xs ++ us ≡ ys ++ vs → (xs ≡ ys) × (us ≡ vs)
columns_apart xs ys us vs width e = (
  sym (take-append_seam xs us) ∙ ap (take (length xs)) e ∙ ap (λ n. take n (ys ++ vs)) width ∙ take-append_seam ys vs,
  sym (drop-append_seam xs us) ∙ ap (drop (length xs)) e ∙ ap (λ n. drop n (ys ++ vs)) width ∙ drop-append_seam ys vs,
)

pub left_width : (width : ℕ) (text : List ℕ) → length text ≤ width → length (left_in width text) ≡ width
left_width width text fits = omega (arith, length-append text (replicate (width - length text) 32), length-replicate {A = ℕ} (width - length text) 32)

pub right_width : (width : ℕ) (text : List ℕ) → length text ≤ width → length (right_in width text) ≡ width
right_width width text fits = omega (arith, length-append (replicate (width - length text) 32) text, length-replicate {A = ℕ} (width - length text) 32)

-- ---- numbers at the right of a column

abbrev without_spaces : List ℕ → List ℕ
without_spaces [] = []
without_spaces (x ∷ xs) = cond (x == 32) (without_spaces xs) (x ∷ xs)

without_spaces-replicate : (n : ℕ) (text : List ℕ) → without_spaces (replicate n 32 ++ text) ≡ without_spaces text
without_spaces-replicate zero text = refl
without_spaces-replicate (suc n) text = without_spaces-replicate n text

space_no_digit : (x : ℕ) → digit_value x < 10 → x ≡ 32 → ⊥
space_no_digit x digit e = let h : digit_value 32 < 10 = subst (λ c. digit_value c < 10) e digit in omega (arith, h)

without_spaces-numeral : (text : List ℕ) → IsNumeral 10 text → without_spaces text ≡ text
without_spaces-numeral [] h = absurd (omega (arith, h.0))
without_spaces-numeral (x ∷ xs) h = rw (ne_eqb x 32 (space_no_digit x h.1.0)) refl

right_tells : (width a b : ℕ) → a < 2 ^ 64 → b < 2 ^ 64 → right_in width (decimal a) ≡ right_in width (decimal b) → a ≡ b
right_tells width a b word_a word_b e = decimal_injective a b word_a word_b (sym (digits a word_a) ∙ ap without_spaces e ∙ digits b word_b) where
  digits : (n : ℕ) → n < 2 ^ 64 → without_spaces (right_in width (decimal n)) ≡ decimal n
  digits n word = without_spaces-replicate (width - length (decimal n)) (decimal n) ∙ without_spaces-numeral (decimal n) (decimal_is_IsNumeral n word).0

-- ---- kinds

abbrev kind_in : List ℕ → LineKind
kind_in text = cond (same_text text (codes "FND")) Funded (cond (same_text text (codes "DFD")) Defunded (cond (same_text text (codes "IN ")) Received Paid))

kind_again : (kind : LineKind) → kind_in (left_in 3 (kind_name kind)) ≡ kind
kind_again Funded = refl
kind_again Defunded = refl
kind_again Received = refl
kind_again Paid = refl

kind_width : (kind : LineKind) → length (left_in 3 (kind_name kind)) ≡ 3
kind_width Funded = refl
kind_width Defunded = refl
kind_width Received = refl
kind_width Paid = refl

-- ---- codes at the left of a column

abbrev before_space : List ℕ → List ℕ
before_space [] = []
before_space (x ∷ xs) = cond (x == 32) [] (x ∷ before_space xs)

before_space-replicate : (n : ℕ) → before_space (replicate n 32) ≡ []
before_space-replicate zero = refl
before_space-replicate (suc n) = refl

space_no_code : (x : ℕ) → is_code_character x ≡ true → x ≡ 32 → ⊥
space_no_code x h e = true≢false (sym h ∙ ap is_code_character e)

before_space-code : (text : List ℕ) (n : ℕ) → list_all is_code_character text ≡ true → before_space (text ++ replicate n 32) ≡ text
before_space-code [] n h = before_space-replicate n
before_space-code (x ∷ text) n h =
    let parts = and_parts (is_code_character x) (list_all is_code_character text) h in
    rw (ne_eqb x 32 (space_no_code x parts.0)) (ap (λ rest. x ∷ rest) (before_space-code text n parts.1))

pub all_at : (codes : List (List ℕ)) (i : ℕ) → list_all is_code codes ≡ true → nat_lt i (length codes) ≡ true → is_code (unwrap_or (slice_get codes i) []) ≡ true
all_at [] i all below = absurd (let h = below in grind (arith, nat_tests))
all_at (first ∷ rest) zero all below = (and_parts (is_code first) (list_all is_code rest) all).0
all_at (first ∷ rest) (suc i) all below = all_at rest i (and_parts (is_code first) (list_all is_code rest) all).1 (let h = below in grind (arith, nat_tests))

code_width : (text : List ℕ) → is_code text ≡ true → length text ≤ 11
code_width text h =
    let e = (and_parts (length text == 8 || length text == 11) (list_all is_code_character text) h).0 in
    grind (arith, nat_tests)

other_width : (s : HubSettings) (kind : LineKind) (other : Option ℕ) → list_all is_code s.codes ≡ true → other_fits s kind other ≡ true → length (other_code s other) ≤ 11
other_width s kind None all fits = omega arith
other_width s Funded (Some n) all fits = absurd (true≢false (sym fits))
other_width s Defunded (Some n) all fits = absurd (true≢false (sym fits))
other_width s Received (Some n) all fits = code_width _ (all_at s.codes n all fits)
other_width s Paid (Some n) all fits = code_width _ (all_at s.codes n all fits)

-- the other participant of a line of this kind, from its column
abbrev other_in : HubSettings → LineKind → List ℕ → Option ℕ
other_in s Funded text = None
other_in s Defunded text = None
other_in s Received text = Some (number_of_code s.codes (before_space text))
other_in s Paid text = Some (number_of_code s.codes (before_space text))

known_again : (s : HubSettings) (n : ℕ) → IsSettings s → list_all is_code s.codes ≡ true → is_participant s n ≡ true → number_of_code s.codes (before_space (left_in 11 (code_numbered s n))) ≡ n
known_again s n lawful all known =
    let code = code_numbered s n in
    let characters = (and_parts (length code == 8 || length code == 11) (list_all is_code_character code) (all_at s.codes n all known)).1 in
    ap (number_of_code s.codes) (before_space-code code (11 - length code) characters) ∙ number_of_code-at s.codes n lawful.different known

other_again : (s : HubSettings) (kind : LineKind) (other : Option ℕ) → IsSettings s → list_all is_code s.codes ≡ true → other_fits s kind other ≡ true → other_in s kind (left_in 11 (other_code s other)) ≡ other
other_again s Funded None lawful all fits = refl
other_again s Funded (Some n) lawful all fits = absurd (true≢false (sym fits))
other_again s Defunded None lawful all fits = refl
other_again s Defunded (Some n) lawful all fits = absurd (true≢false (sym fits))
other_again s Received None lawful all fits = absurd (true≢false (sym fits))
other_again s Received (Some n) lawful all fits = ap Some (known_again s n lawful all fits)
other_again s Paid None lawful all fits = absurd (true≢false (sym fits))
other_again s Paid (Some n) lawful all fits = ap Some (known_again s n lawful all fits)

-- ---- lines

-- what the proof needs of a line
pub record HasColumns (s : HubSettings) (line : Line) : Type 0 where
  pub number_word : line.number < 2 ^ 64
  pub number_width : length (right_in 6 (decimal line.number)) ≡ 6
  pub other_fits : other_fits s line.kind line.other ≡ true
  pub other_width : length (left_in 11 (other_code s line.other)) ≡ 11
  pub id_width : length (left_in 35 line.id) ≡ 35
  pub cents_word : line.cents < 2 ^ 64
  pub cents_width : length (right_in 11 (decimal line.cents)) ≡ 11
  pub position_width : length (right_in 20 (decimal line.position)) ≡ 20

pub columns_from : (s : HubSettings) (line : Line) → line.number ≤ last_number → other_fits s line.kind line.other ≡ true → length (other_code s line.other) ≤ 11 → length line.id ≤ 35 → line.cents ≤ 99999999999 → line.position < 2 ^ 64 → HasColumns s line
columns_from s line small fits other short amount word = record {
  number_word = omega (arith, small);
  number_width = right_width 6 _ (length-decimal-le 6 line.number (omega arith) (omega (arith, small)) (omega (arith, small)));
  other_fits = fits;
  other_width = left_width 11 _ other;
  id_width = left_width 35 line.id short;
  cents_word = omega (arith, amount);
  cents_width = right_width 11 _ (length-decimal-le 11 line.cents (omega arith) (omega (arith, amount)) (omega (arith, amount)));
  position_width = right_width 20 _ (length-decimal-le 20 line.position (omega arith) (omega (arith, word)) word);
}

has_columns : (s : HubSettings) (line : Line) → IsLineOf s line → HasColumns s line
has_columns s line given =
    let parts = and_parts (nat_le line.number last_number) (other_fits s line.kind line.other) given.fits in
    let small : line.number ≤ last_number = let h = parts.0 in grind (arith, nat_tests) in
    columns_from s line small parts.1 (other_width s line.kind line.other given.codes parts.1) (identifier_form line.id given.identifier).1 given.amount given.position

abbrev columns : HubSettings → Line → List ℕ
columns s line =
    right_in 6 (decimal line.number) ++ (32 ∷ (left_in 3 (kind_name line.kind) ++ (32 ∷ (left_in 11 (other_code s line.other) ++ (32 ∷ (left_in 35 line.id ++ (32 ∷ (right_in 11 (decimal line.cents) ++ (32 ∷ right_in 20 (decimal line.position))))))))))

columns_text : (s : HubSettings) (line : Line) → columns s line ≡ line_text s line
unfolding line_text
columns_text s line = columns_are _ _ _ _ _ _ refl refl refl refl refl refl

-- a column, a space and what follows
followed : (column rest : List ℕ) → length (column ++ (32 ∷ rest)) ≡ length column + (1 + length rest)
followed column rest = omega (arith, length-append column (32 ∷ rest))

pub columns_length : (s : HubSettings) (line : Line) → HasColumns s line → length (line_text s line) ≡ 91
columns_length s line c =
    let position = right_in 20 (decimal line.position) in
    let cents = right_in 11 (decimal line.cents) ++ (32 ∷ position) in
    let id = left_in 35 line.id ++ (32 ∷ cents) in
    let other = left_in 11 (other_code s line.other) ++ (32 ∷ id) in
    let kind = left_in 3 (kind_name line.kind) ++ (32 ∷ other) in
    let e5 : length cents ≡ 32 = followed (right_in 11 (decimal line.cents)) position ∙ omega (arith, c.cents_width, c.position_width) in
    let e4 : length id ≡ 68 = followed (left_in 35 line.id) cents ∙ omega (arith, c.id_width, e5) in
    let e3 : length other ≡ 80 = followed (left_in 11 (other_code s line.other)) id ∙ omega (arith, c.other_width, e4) in
    let e2 : length kind ≡ 84 = followed (left_in 3 (kind_name line.kind)) other ∙ omega (arith, kind_width line.kind, e3) in
    sym (ap length (columns_text s line)) ∙ followed (right_in 6 (decimal line.number)) kind ∙ omega (arith, c.number_width, e2)

pub line_length : (s : HubSettings) (line : Line) → IsLineOf s line → length (line_text s line) ≡ 91
line_length s line given = columns_length s line (has_columns s line given)

pub line_tells : (s : HubSettings) (a b : Line) → IsLineOf s a → IsLineOf s b → line_text s a ≡ line_text s b → IsSameButForSpaces a b
line_tells s a b of_a of_b e =
    let ca = has_columns s a of_a in
    let cb = has_columns s b of_b in
    let all : columns s a ≡ columns s b = columns_text s a ∙ e ∙ sym (columns_text s b) in
    let numbers = columns_apart (right_in 6 (decimal a.number)) (right_in 6 (decimal b.number)) _ _ (ca.number_width ∙ sym cb.number_width) all in
    let kinds = columns_apart (left_in 3 (kind_name a.kind)) (left_in 3 (kind_name b.kind)) _ _ (kind_width a.kind ∙ sym (kind_width b.kind)) (ap (drop 1) numbers.1) in
    let others = columns_apart (left_in 11 (other_code s a.other)) (left_in 11 (other_code s b.other)) _ _ (ca.other_width ∙ sym cb.other_width) (ap (drop 1) kinds.1) in
    let ids = columns_apart (left_in 35 a.id) (left_in 35 b.id) _ _ (ca.id_width ∙ sym cb.id_width) (ap (drop 1) others.1) in
    let cents = columns_apart (right_in 11 (decimal a.cents)) (right_in 11 (decimal b.cents)) _ _ (ca.cents_width ∙ sym cb.cents_width) (ap (drop 1) ids.1) in
    let kind : a.kind ≡ b.kind = sym (kind_again a.kind) ∙ ap kind_in kinds.0 ∙ kind_again b.kind in record {
      number = right_tells 6 a.number b.number ca.number_word cb.number_word numbers.0;
      kind = kind;
      other = sym (other_again s a.kind a.other of_a.settings of_a.codes ca.other_fits) ∙ ap (λ k. other_in s k (left_in 11 (other_code s a.other))) kind ∙ ap (other_in s b.kind) others.0 ∙ other_again s b.kind b.other of_b.settings of_b.codes cb.other_fits;
      id = ids.0;
      cents = right_tells 11 a.cents b.cents ca.cents_word cb.cents_word cents.0;
      position = right_tells 20 a.position b.position of_a.position of_b.position (ap (drop 1) cents.1);
    }
