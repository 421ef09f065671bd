-- The lexer at the parts of a line, each at a place of the text.
use Rattle.std.proofs.Common.{◌≡◌, ℕ, zero, suc, IsAscii, ◌+◌, ◌*◌, ◌/◌, ◌%◌, ◌<◌, ◌^◌, Bool, true, false, cond, ◌||◌, ◌==◌, nat_lt, List, [], ◌∷◌, ◌++◌, length, get_or, take, drop, Some, decimal, refl, sym, ap, ap₂, ◌∙◌, arith, append_assoc, drop-cons, subst, ◌⊎◌, inl, inr}
use Rattle.std.proofs.lemmas.Bool.{true≢false, eqb-true, or_parts, not-true, and_parts, ltb-true}
use Rattle.std.proofs.lemmas.Fmt.{decimal_digit, decimal_step}
use Rattle.std.specs.List.{prefix_len}
use Rattle.json.specs.Token.{string, number, end_object, begin_object}
use Rattle.json.specs.Text.{content, plain, prepend}
use Rattle.json.specs.Run.{is_plain}
use Rattle.inst_json.specs.inner.Scalar.{is_text}
use Rattle.json.specs.Word.{is_operator, is_space, ends_word}
use Rattle.json.specs.Lex.{Lexeme, Mode, token, comma, colon, lex, lex_byte, between, in_string, operator, space, other}
use Rattle.json.proofs.Printed.Numbers.{lex-number}
use Rattle.json.proofs.Printed.Decimals.{IsNumber-decimal}

-- the text from a place on, by the byte that stands there
pub at_place : (t : List ℕ) (i x : ℕ) → i < length t → get_or t i 0 ≡ x → drop i t ≡ x ∷ drop (i + 1) t
at_place t i x within is =
    let e : suc i ≡ i + 1 = omega arith in
    drop-cons t i 0 within ∙ ap₂ (λ y k. y ∷ drop k t) is e

-- a byte that is a space is one of four
four_spaces : (x : ℕ) (a b c d : Bool) → (x == 32) ≡ a → (x == 9) ≡ b → (x == 10) ≡ c → (x == 13) ≡ d → (a || b || c || d) ≡ true
    → (x ≡ 32) ⊎ ((x ≡ 9) ⊎ ((x ≡ 10) ⊎ (x ≡ 13)))
four_spaces x true b c d p q r s h = inl (eqb-true x 32 p)
four_spaces x false true c d p q r s h = inr (inl (eqb-true x 9 q))
four_spaces x false false true d p q r s h = inr (inr (inl (eqb-true x 10 r)))
four_spaces x false false false true p q r s h = inr (inr (inr (eqb-true x 13 s)))
four_spaces x false false false false p q r s h = absurd (true≢false (sym h))

blank : (x : ℕ) (r : List ℕ) → (x ≡ 32) ⊎ ((x ≡ 9) ⊎ ((x ≡ 10) ⊎ (x ≡ 13))) → lex between (x ∷ r) ≡ lex between r
unfolding lex
blank x r (inl e) = rw e refl
blank x r (inr (inl e)) = rw e refl
blank x r (inr (inr (inl e))) = rw e refl
blank x r (inr (inr (inr e))) = rw e refl

pub lex_space : (t : List ℕ) (i : ℕ) → i < length t → is_space (get_or t i 0) ≡ true → lex between (drop i t) ≡ lex between (drop (i + 1) t)
lex_space t i within h =
    let x = get_or t i 0 in
    ap (lex between) (at_place t i x within refl) ∙ blank x (drop (i + 1) t) (four_spaces x (x == 32) (x == 9) (x == 10) (x == 13) refl refl refl refl h)

pub lex_quote : (t : List ℕ) (i : ℕ) (s : List ℕ) → i < length t → get_or t i 0 ≡ 34 → content plain (drop (i + 1) t) ≡ Some s
    → lex between (drop i t) ≡ token (string s) ∷ lex in_string (drop (i + 1) t)
unfolding lex
lex_quote t i s within is e = ap (lex between) (at_place t i 34 within is) ∙ rw e refl

pub lex_colon : (t : List ℕ) (i : ℕ) → i < length t → get_or t i 0 ≡ 58 → lex between (drop i t) ≡ colon ∷ lex between (drop (i + 1) t)
unfolding lex
lex_colon t i within is = ap (lex between) (at_place t i 58 within is)

pub lex_comma : (t : List ℕ) (i : ℕ) → i < length t → get_or t i 0 ≡ 44 → lex between (drop i t) ≡ comma ∷ lex between (drop (i + 1) t)
unfolding lex
lex_comma t i within is = ap (lex between) (at_place t i 44 within is)

pub lex_open : (t : List ℕ) (i : ℕ) → i < length t → get_or t i 0 ≡ 123 → lex between (drop i t) ≡ token begin_object ∷ lex between (drop (i + 1) t)
unfolding lex
lex_open t i within is = ap (lex between) (at_place t i 123 within is)

pub lex_close : (t : List ℕ) (i : ℕ) → i < length t → get_or t i 0 ≡ 125 → lex between (drop i t) ≡ token end_object ∷ lex between (drop (i + 1) t)
unfolding lex
lex_close t i within is = ap (lex between) (at_place t i 125 within is)

-- ---- a text up to its closing quote

stays_inside : (o s : Bool) (x : ℕ) (r : List ℕ) (k : Mode → List Lexeme) → lex_byte in_string (cond o operator (cond s space other)) x r k ≡ k in_string
stays_inside true s x r k = refl
stays_inside false true x r k = refl
stays_inside false false x r k = refl

abbrev ReadsTo : List ℕ → ℕ → Type 0
ReadsTo xs n = (content plain xs ≡ Some (take n xs)) × (lex in_string xs ≡ lex between (drop (suc n) xs))

one_more : (x : ℕ) (xs : List ℕ) (n : ℕ) → is_plain x ≡ true → ReadsTo xs n → ReadsTo (x ∷ xs) (suc n)
unfolding content lex
one_more x xs n stop rest =
    let none = or_parts ((x == 34) || (x == 92)) (nat_lt x 32) (not-true _ stop) in
    let tests = or_parts (x == 34) (x == 92) none.0 in (
      rw (tests.0, tests.1, none.1) (ap (prepend (x ∷ [])) rest.0),
      rw (tests.0, tests.1) (stays_inside (is_operator x) (is_space x) x xs (λ m. lex m xs) ∙ rest.1),
    )

from_byte : (x : ℕ) (xs : List ℕ) (b : Bool) → is_text x ≡ b → get_or (x ∷ xs) (cond b (1 + prefix_len is_text xs) 0) 0 ≡ 34
    → (get_or xs (prefix_len is_text xs) 0 ≡ 34 → ReadsTo xs (prefix_len is_text xs)) → ReadsTo (x ∷ xs) (cond b (1 + prefix_len is_text xs) 0)
unfolding content lex
from_byte x xs false stop is ih = rw is (refl, refl)
from_byte x xs true stop is ih =
    let n = prefix_len is_text xs in
    let more : suc n ≡ 1 + n = omega arith in
    subst (λ m. get_or (x ∷ xs) m 0 ≡ 34 → ReadsTo (x ∷ xs) m) more (λ e. one_more x xs n (and_parts _ _ stop).0 (ih e)) is

pub string_at : (xs : List ℕ) → get_or xs (prefix_len is_text xs) 0 ≡ 34 → ReadsTo xs (prefix_len is_text xs)
string_at [] e = absurd (cc)
string_at (x ∷ xs) e = from_byte x xs (is_text x) refl e (string_at xs)

ascii_from : (x : ℕ) (xs : List ℕ) (b : Bool) (n : ℕ) → is_text x ≡ b → IsAscii (take n xs) → IsAscii (take (cond b (1 + n) 0) (x ∷ xs))
ascii_from x xs false n h ih = λ i. omega arith
ascii_from x xs true n h ih =
    let more : suc n ≡ 1 + n = omega arith in
    let small : x < 128 = ltb-true x 128 (and_parts _ _ h).1 in
    subst (λ m. IsAscii (take m (x ∷ xs))) more (each small ih)
  where
    each : x < 128 → IsAscii (take n xs) → IsAscii (take (suc n) (x ∷ xs))
    each small rest zero = small
    each small rest (suc i) = rest i

pub ascii_at : (xs : List ℕ) → IsAscii (take (prefix_len is_text xs) xs)
ascii_at [] = λ i. omega arith
ascii_at (x ∷ xs) = ascii_from x xs (is_text x) (prefix_len is_text xs) refl (ascii_at xs)

-- ---- whole numbers

pub first_digit : (t : List ℕ) (i v : ℕ) → i < length t → get_or t i 0 ≡ 48 + v → v < 10 → drop i t ≡ decimal v ++ drop (i + 1) t
first_digit t i v within is small = at_place t i (48 + v) within is ∙ ap (λ ds. ds ++ drop (i + 1) t) (sym (decimal_digit v small))

pub next_digit : (t : List ℕ) (i v d n : ℕ) → i < length t → get_or t i 0 ≡ 48 + d → d < 10 → 0 < v → n ≡ v * 10 + d → n < 2 ^ 64
    → decimal v ++ drop i t ≡ decimal n ++ drop (i + 1) t
next_digit t i v d n within is small some e fits =
    let tens : n / 10 ≡ v = grind arith in
    let ones : n % 10 ≡ d = grind arith in
    let step = decimal_step n (omega arith) fits in
    ap (λ r. decimal v ++ r) (at_place t i (48 + d) within is)
    ∙ sym (append_assoc (decimal v) ((48 + d) ∷ []) (drop (i + 1) t))
    ∙ ap (λ ds. ds ++ drop (i + 1) t) (sym (step ∙ ap₂ (λ a b. decimal a ++ (48 + b) ∷ []) tens ones))

ends_at : (t : List ℕ) (i x : ℕ) → i < length t → get_or t i 0 ≡ x → ends_word (x ∷ []) ≡ true → ends_word (drop i t) ≡ true
ends_at t i x within is e = ap ends_word (at_place t i x within is) ∙ e

pub lex_whole : (t : List ℕ) (i j v : ℕ) → v < 2 ^ 64 → drop i t ≡ decimal v ++ drop j t → j < length t → ends_word (get_or t j 0 ∷ []) ≡ true
    → lex between (drop i t) ≡ token (number (decimal v)) ∷ lex between (drop j t)
lex_whole t i j v fits e within ended = ap (lex between) e ∙ lex-number (decimal v) (drop j t) (IsNumber-decimal v fits) (ends_at t j (get_or t j 0) within refl ended)
