-- What the first byte of a part of a line tells of the tokens there.
use Rattle.std.proofs.Common.{◌≡◌, ℕ, suc, ◌+◌, ◌<◌, ◌≤◌, Bool, true, false, cond, ◌&&◌, ◌||◌, ◌==◌, nat_eq, nat_lt, List, [], ◌∷◌, length, get_or, drop, Option, Some, None, refl, sym, ap, ◌∙◌, subst, arith}
use Rattle.std.proofs.lemmas.Bool.{true≢false, false≢true, ne_eqb, lt-ltb, or_parts, and_parts, not-true}
use Rattle.std.proofs.lemmas.Bool.Decides.{nat_tests}
use Rattle.std.proofs.lemmas.List.{drop_all, get_or-drop}
use Rattle.std.specs.List.{prefix_len, starts_with}
use Rattle.std.specs.Char.{is_ascii_digit}
use Rattle.json.specs.Token.{Token, begin_object, end_object, begin_array, end_array, string, number, boolean, null, bad}
use Rattle.json.specs.Text.{content, plain, prepend}
use Rattle.json.specs.Word.{is_operator, is_space, ends_word, after_number, number_before, literal, word, head}
use Rattle.json.specs.Ascii.{true_text, false_text, null_text}
use Rattle.json.specs.Lex.{Lexeme, token, comma, colon, quote, backslash, operator, space, other, operator_lexeme, string_token, lex_byte, lex, between, in_string, in_word}
use Rattle.json.specs.Lex.{Place, fresh, after_value, after_comma, after_key, begins_colon, may_begin, if_allowed, place_token, punctuate}
use Rattle.json.specs.Json.{read_key, value}
use Rattle.json.proofs.Grammar.{value_is}
use Rattle.inst_json.specs.inner.Begin.{begins_value}
use Rattle.inst_json.specs.inner.Scalar.{is_text}
use Rattle.inst_json.proofs.TokensAtLinePlaces.{at_place, lex_quote}

-- ---- a text that breaks off

none_from : (x : ℕ) (xs : List ℕ) (b : Bool) → is_text x ≡ b → get_or (x ∷ xs) (cond b (1 + prefix_len is_text xs) 0) 0 < 32
    → (get_or xs (prefix_len is_text xs) 0 < 32 → content plain xs ≡ None) → content plain (x ∷ xs) ≡ None
unfolding content
none_from x xs false is small ih =
    let quote_no = ne_eqb x 34 (λ e. omega (arith, small, e)) in
    let slash_no = ne_eqb x 92 (λ e. omega (arith, small, e)) in
    rw (quote_no, slash_no, lt-ltb x 32 small) refl
none_from x xs true is small ih =
    let n = prefix_len is_text xs in
    let more : suc n ≡ 1 + n = omega arith in
    let none = or_parts ((x == 34) || (x == 92)) (nat_lt x 32) (not-true _ (and_parts _ _ is).0) in
    let tests = or_parts (x == 34) (x == 92) none.0 in
    let rest : content plain xs ≡ None = ih (subst (λ m. get_or (x ∷ xs) m 0 < 32) (sym more) small) in
    rw (tests.0, tests.1, none.1) (ap (prepend (x ∷ [])) rest)

none_read : (xs : List ℕ) → get_or xs (prefix_len is_text xs) 0 < 32 → content plain xs ≡ None
unfolding content
none_read [] small = refl
none_read (x ∷ xs) small = none_from x xs (is_text x) refl small (none_read xs)

-- the plain bytes from i on end at j, in no quote
pub breaks_off : (t : List ℕ) (i j : ℕ) → j ≡ i + prefix_len is_text (drop i t) → get_or t j 0 < 32 → content plain (drop i t) ≡ None
breaks_off t i j e small =
    let xs = drop i t in
    let here : get_or xs (prefix_len is_text xs) 0 ≡ get_or t j 0 = get_or-drop i t _ 0 ∙ ap (λ k. get_or t k 0) (sym e) in
    none_read xs (omega (arith, here, small))

pub lex_broken : (t : List ℕ) (i : ℕ) → i < length t → get_or t i 0 ≡ 34 → content plain (drop (i + 1) t) ≡ None
    → lex between (drop i t) ≡ token bad ∷ lex in_string (drop (i + 1) t)
unfolding lex
lex_broken t i within is e = ap (lex between) (at_place t i 34 within is) ∙ rw e refl

pub lex_end : (t : List ℕ) (i : ℕ) → length t ≤ i → lex between (drop i t) ≡ []
unfolding lex
lex_end t i past = ap (lex between) (drop_all i t past)

-- ---- the first lexeme, by its byte

either : (P : Token → Type 0) (b : Bool) (x y : Token) → P x → P y → P (cond b x y)
either P true x y p q = p
either P false x y p q = q

number_is : (P : Token → Type 0) → P bad → ((s : List ℕ) → P (number s)) → (t : List ℕ) (o : Option (List ℕ)) → P (number_before t o)
number_is P none some t None = none
number_is P none some t (Some r) = either P (ends_word r) _ bad (some _) none

literal_is : (P : Token → Type 0) (name : List ℕ) (k : Token) (t : List ℕ) → P k → P bad → P (literal name k t)
literal_is P name k t some none = either P (starts_with nat_eq t name && ends_word (drop (length name) t)) k bad some none

word_is : (P : Token → Type 0) → P bad → P null → ((v : Bool) → P (boolean v)) → ((s : List ℕ) → P (number s)) → (t : List ℕ) → P (word t)
unfolding word
word_is P none nil truth some t =
    either P (head t == 116) _ _ (literal_is P true_text (boolean true) t (truth true) none) (either P (head t == 102) _ _ (literal_is P false_text (boolean false) t (truth false) none)
    (either P (head t == 110) _ _ (literal_is P null_text null t nil none) (number_is P none some t (after_number t))))

module _ (P : List Lexeme → Type 0) (x : ℕ) (xs : List ℕ) (text : (x == 34) ≡ true → (o : Option (List ℕ)) (ls : List Lexeme) → P (token (string_token o) ∷ ls))
    (slash : (ls : List Lexeme) → P (token bad ∷ ls)) (mark : is_operator x ≡ true → (ls : List Lexeme) → P (operator_lexeme x ∷ ls))
    (words : (ls : List Lexeme) → P (token (word (x ∷ xs)) ∷ ls)) where
  by_tests : (q b o s : Bool) → (x == 34) ≡ q → is_operator x ≡ o → s ≡ false
      → P (lex_byte between (cond q quote (cond b backslash (cond o operator (cond s space other)))) x xs (λ m. lex m xs))
  by_tests true b o s q m e = text q (content plain xs) (lex in_string xs)
  by_tests false true o s q m e = slash (lex in_word xs)
  by_tests false false true s q m e = mark m (lex between xs)
  by_tests false false false true q m e = absurd (true≢false e)
  by_tests false false false false q m e = words (lex in_word xs)

  pub first_cases : is_space x ≡ false → P (lex between (x ∷ xs))
  unfolding lex
  first_cases no_space = by_tests (x == 34) (x == 92) (is_operator x) (is_space x) refl refl no_space

-- ---- no colon

mark_no_colon : (a b c d e m : Bool) (ls : List Lexeme) → e ≡ false → (a || b || c || d || e || m) ≡ true
    → begins_colon (cond a (token begin_object) (cond b (token end_object) (cond c (token begin_array) (cond d (token end_array) (cond m comma colon)))) ∷ ls) ≡ false
mark_no_colon true b c d e m ls differs is = refl
mark_no_colon false true c d e m ls differs is = refl
mark_no_colon false false true d e m ls differs is = refl
mark_no_colon false false false true e m ls differs is = refl
mark_no_colon false false false false true m ls differs is = absurd (true≢false differs)
mark_no_colon false false false false false true ls differs is = refl
mark_no_colon false false false false false false ls differs is = absurd (false≢true is)

no_colon : (x : ℕ) (xs : List ℕ) → is_space x ≡ false → (x == 58) ≡ false → begins_colon (lex between (x ∷ xs)) ≡ false
no_colon x xs no_space differs =
    first_cases (λ ls. begins_colon ls ≡ false) x xs (λ q o ls. refl) (λ ls. refl)
    (λ is ls. mark_no_colon (x == 123) (x == 125) (x == 91) (x == 93) (x == 58) (x == 44) ls differs is) (λ ls. refl) no_space

-- ---- no key

stands : (b : Bool) (t : Token) (k : Place → List Token) (next : Place) → read_key (t ∷ k next) ≡ None → read_key (if_allowed b t k next) ≡ None
stands true t k next e = e
stands false t k next e = refl

comma_no_key : (p : Place) (ls : List Lexeme) → may_begin p ≡ true → read_key (punctuate p (comma ∷ ls)) ≡ None
unfolding punctuate
comma_no_key fresh ls may = refl
comma_no_key after_value ls may = absurd (false≢true may)
comma_no_key after_comma ls may = refl
comma_no_key after_key ls may = absurd (false≢true may)

colon_no_key : (p : Place) (ls : List Lexeme) → may_begin p ≡ true → read_key (punctuate p (colon ∷ ls)) ≡ None
unfolding punctuate
colon_no_key fresh ls may = refl
colon_no_key after_value ls may = refl
colon_no_key after_comma ls may = refl
colon_no_key after_key ls may = absurd (false≢true may)

mark_no_key : (p : Place) (a b c d m : Bool) (ls : List Lexeme) → may_begin p ≡ true → b ≡ false
    → read_key (punctuate p (cond a (token begin_object) (cond b (token end_object) (cond c (token begin_array) (cond d (token end_array) (cond m comma colon)))) ∷ ls)) ≡ None
unfolding punctuate
mark_no_key p true b c d m ls may differs = stands (may_begin p) begin_object _ fresh refl
mark_no_key p false true c d m ls may differs = absurd (true≢false differs)
mark_no_key p false false true d m ls may differs = stands (may_begin p) begin_array _ fresh refl
mark_no_key p false false false true m ls may differs = stands _ end_array _ after_value refl
mark_no_key p false false false false true ls may differs = comma_no_key p ls may
mark_no_key p false false false false false ls may differs = colon_no_key p ls may

word_no_key : (p : Place) (t : List ℕ) (ls : List Lexeme) → read_key (punctuate p (token (word t) ∷ ls)) ≡ None
unfolding punctuate
word_no_key p t ls =
    word_is (λ k. read_key (punctuate p (token k ∷ ls)) ≡ None) refl (stands (may_begin p) null _ after_value refl) (λ v. stands (may_begin p) (boolean v) _ after_value refl)
    (λ s. stands (may_begin p) (number s) _ after_value refl) t

pub bad_no_key : (p : Place) (ls : List Lexeme) → read_key (punctuate p (token bad ∷ ls)) ≡ None
unfolding punctuate
bad_no_key p ls = refl

-- what opens no text and isn't the end is no key
pub no_key : (p : Place) (x : ℕ) (xs : List ℕ) → may_begin p ≡ true → is_space x ≡ false → (x == 34) ≡ false → (x == 125) ≡ false
    → read_key (punctuate p (lex between (x ∷ xs))) ≡ None
no_key p x xs may no_space no_quote no_end =
    first_cases (λ ls. read_key (punctuate p ls) ≡ None) x xs (λ q o ls. absurd (true≢false (sym q ∙ no_quote))) (bad_no_key p)
    (λ is ls. mark_no_key p (x == 123) (x == 125) (x == 91) (x == 93) (x == 44) ls may no_end) (word_no_key p (x ∷ xs)) no_space

-- behind a comma the object doesn't end
pub end_no_key : (p : Place) (ls : List Lexeme) → p ≡ after_comma → read_key (punctuate p (token end_object ∷ ls)) ≡ None
unfolding punctuate
end_no_key p ls is = rw is refl

pub no_key_left : (p : Place) → may_begin p ≡ true → read_key (punctuate p []) ≡ None
unfolding punctuate
no_key_left fresh may = refl
no_key_left after_value may = absurd (false≢true may)
no_key_left after_comma may = refl
no_key_left after_key may = absurd (false≢true may)

-- a text without a colon is no key
pub text_no_key : (p : Place) (s : List ℕ) (ls : List Lexeme) → begins_colon ls ≡ false → read_key (punctuate p (token (string s) ∷ ls)) ≡ None
unfolding punctuate
text_no_key p s ls differs = rw differs (stands (may_begin p) (string s) _ after_value refl)

-- ---- neither a comma nor the end

mark_no_comma : (a b c d e m : Bool) (ls : List Lexeme) → b ≡ false → e ≡ false → m ≡ false → (a || b || c || d || e || m) ≡ true
    → read_key (punctuate after_value (cond a (token begin_object) (cond b (token end_object) (cond c (token begin_array) (cond d (token end_array) (cond m comma colon)))) ∷ ls)) ≡ None
unfolding punctuate
mark_no_comma true b c d e m ls no_end no_colon no_comma is = refl
mark_no_comma false true c d e m ls no_end no_colon no_comma is = absurd (true≢false no_end)
mark_no_comma false false true d e m ls no_end no_colon no_comma is = refl
mark_no_comma false false false true e m ls no_end no_colon no_comma is = refl
mark_no_comma false false false false true m ls no_end no_colon no_comma is = absurd (true≢false no_colon)
mark_no_comma false false false false false true ls no_end no_colon no_comma is = absurd (true≢false no_comma)
mark_no_comma false false false false false false ls no_end no_colon no_comma is = absurd (false≢true is)

text_behind : (o : Option (List ℕ)) (b : Bool) (k : Place → List Token) → read_key (place_token after_value (string_token o) b k) ≡ None
text_behind None b k = refl
text_behind (Some s) true k = refl
text_behind (Some s) false k = refl

text_no_comma : (o : Option (List ℕ)) (ls : List Lexeme) → read_key (punctuate after_value (token (string_token o) ∷ ls)) ≡ None
unfolding punctuate
text_no_comma o ls = text_behind o _ _

-- what stands behind a value, where neither a comma nor the end stands there
abbrev pub NoComma : List Lexeme → Type 0
NoComma ls = (begins_colon ls ≡ false) × (read_key (punctuate after_value ls) ≡ None)

pub no_comma : (x : ℕ) (xs : List ℕ) → is_space x ≡ false → (x == 125) ≡ false → (x == 58) ≡ false → (x == 44) ≡ false → NoComma (lex between (x ∷ xs))
no_comma x xs no_space no_end differs no_mark = (
  no_colon x xs no_space differs,
  first_cases (λ ls. read_key (punctuate after_value ls) ≡ None) x xs (λ q o ls. text_no_comma o ls) (bad_no_key after_value)
      (λ is ls. mark_no_comma (x == 123) (x == 125) (x == 91) (x == 93) (x == 58) (x == 44) ls no_end differs no_mark is) (word_no_key after_value (x ∷ xs)) no_space,
)

pub no_comma_left : NoComma []
unfolding punctuate
no_comma_left = (refl, refl)

-- ---- no value

pub no_value_left : (depth : ℕ) → value depth (punctuate fresh []) ≡ None
unfolding punctuate
no_value_left depth = value_is depth []

pub bad_no_value : (depth : ℕ) (ls : List Lexeme) → value depth (punctuate fresh (token bad ∷ ls)) ≡ None
unfolding punctuate
bad_no_value depth ls = value_is depth (bad ∷ [])

mark_no_value : (depth : ℕ) (a b c d m : Bool) (ls : List Lexeme) → a ≡ false → c ≡ false
    → value depth (punctuate fresh (cond a (token begin_object) (cond b (token end_object) (cond c (token begin_array) (cond d (token end_array) (cond m comma colon)))) ∷ ls)) ≡ None
unfolding punctuate
mark_no_value depth true b c d m ls no_object no_array = absurd (true≢false no_object)
mark_no_value depth false true c d m ls no_object no_array = value_is depth (end_object ∷ punctuate after_value ls)
mark_no_value depth false false true d m ls no_object no_array = absurd (true≢false no_array)
mark_no_value depth false false false true m ls no_object no_array = value_is depth (end_array ∷ punctuate after_value ls)
mark_no_value depth false false false false true ls no_object no_array = value_is depth (bad ∷ [])
mark_no_value depth false false false false false ls no_object no_array = value_is depth (bad ∷ [])

zero_is_digit : (x : ℕ) → is_ascii_digit x ≡ false → (x == 48) ≡ false
zero_is_digit x differs = grind (arith, nat_tests)

word_bad : (x : ℕ) (xs : List ℕ) → is_ascii_digit x ≡ false → (x == 45) ≡ false → (x == 116) ≡ false → (x == 102) ≡ false → (x == 110) ≡ false → word (x ∷ xs) ≡ bad
unfolding word after_number
word_bad x xs no_digit no_minus no_true no_false no_null =
    rw (no_true, no_false, no_null, no_minus, zero_is_digit x no_digit, no_digit) refl

pub no_value : (x : ℕ) (xs : List ℕ) → is_space x ≡ false → begins_value x ≡ false → (depth : ℕ) → value depth (punctuate fresh (lex between (x ∷ xs))) ≡ None
no_value x xs no_space differs depth =
    let a = or_parts _ (x == 110) differs in
    let b = or_parts _ (x == 102) a.0 in
    let c = or_parts _ (x == 116) b.0 in
    let d = or_parts _ (x == 45) c.0 in
    let e = or_parts _ (x == 91) d.0 in
    let f = or_parts _ (x == 123) e.0 in
    let g = or_parts (is_ascii_digit x) (x == 34) f.0 in
    first_cases (λ ls. value depth (punctuate fresh ls) ≡ None) x xs (λ q o ls. absurd (true≢false (sym q ∙ g.1))) (bad_no_value depth)
    (λ is ls. mark_no_value depth (x == 123) (x == 125) (x == 91) (x == 93) (x == 44) ls f.1 e.1)
    (λ ls. ap (λ k. value depth (punctuate fresh (token k ∷ ls))) (word_bad x xs g.0 d.1 c.1 b.1 a.1) ∙ bad_no_value depth ls) no_space

-- ---- at a place of the text

module _ (t : List ℕ) (i : ℕ) (within : i < length t) (no_space : is_space (get_or t i 0) ≡ false) where
  here : drop i t ≡ get_or t i 0 ∷ drop (i + 1) t
  here = at_place t i (get_or t i 0) within refl

  pub no_colon_at : (get_or t i 0 ≡ 58 → ⊥) → begins_colon (lex between (drop i t)) ≡ false
  no_colon_at differs = ap (λ xs. begins_colon (lex between xs)) here ∙ no_colon (get_or t i 0) (drop (i + 1) t) no_space (ne_eqb _ 58 differs)

  pub no_key_at : (p : Place) → may_begin p ≡ true → (get_or t i 0 ≡ 34 → ⊥) → (get_or t i 0 ≡ 125 → ⊥) → read_key (punctuate p (lex between (drop i t))) ≡ None
  no_key_at p may no_quote no_end =
      ap (λ xs. read_key (punctuate p (lex between xs))) here ∙ no_key p (get_or t i 0) (drop (i + 1) t) may no_space (ne_eqb _ 34 no_quote) (ne_eqb _ 125 no_end)

  pub no_comma_at : (get_or t i 0 ≡ 125 → ⊥) → (get_or t i 0 ≡ 58 → ⊥) → (get_or t i 0 ≡ 44 → ⊥) → NoComma (lex between (drop i t))
  no_comma_at no_end differs no_mark =
      subst (λ xs. NoComma (lex between xs)) (sym here) (no_comma (get_or t i 0) (drop (i + 1) t) no_space (ne_eqb _ 125 no_end) (ne_eqb _ 58 differs) (ne_eqb _ 44 no_mark))

  pub no_value_at : begins_value (get_or t i 0) ≡ false → (depth : ℕ) → value depth (punctuate fresh (lex between (drop i t))) ≡ None
  no_value_at differs depth = ap (λ xs. value depth (punctuate fresh (lex between xs))) here ∙ no_value (get_or t i 0) (drop (i + 1) t) no_space differs depth

  pub some_lexeme_at : (l : Lexeme) × (ls : List Lexeme) × (lex between (drop i t) ≡ l ∷ ls)
  some_lexeme_at =
      subst (λ xs. (l : Lexeme) × (ls : List Lexeme) × (lex between xs ≡ l ∷ ls)) (sym here)
      (first_cases (λ ms. (l : Lexeme) × (ls : List Lexeme) × (ms ≡ l ∷ ls)) (get_or t i 0) (drop (i + 1) t) (λ q o ls. (token (string_token o), ls, refl)) (λ ls. (token bad, ls, refl))
      (λ is ls. (operator_lexeme (get_or t i 0), ls, refl)) (λ ls. (token (word (get_or t i 0 ∷ drop (i + 1) t)), ls, refl)) no_space)

-- the text of what stands where a key must, and the lexemes behind it
module _ (t : List ℕ) (from start end at : ℕ) (s : List ℕ) (spaced : lex between (drop start t) ≡ lex between (drop from t)) (within : start < length t) (is : get_or t start 0 ≡ 34)
    (text : content plain (drop (start + 1) t) ≡ Some s) (rest : lex in_string (drop (start + 1) t) ≡ lex between (drop end t)) (behind : lex between (drop at t) ≡ lex between (drop end t)) where
  pub no_key_behind : begins_colon (lex between (drop at t)) ≡ false → (p : Place) → read_key (punctuate p (lex between (drop from t))) ≡ None
  no_key_behind no_mark p =
      let split = sym spaced ∙ lex_quote t start s within is text ∙ ap (λ ls. token (string s) ∷ ls) (rest ∙ sym behind) in
      ap (λ ls. read_key (punctuate p ls)) split ∙ text_no_key p s (lex between (drop at t)) no_mark
