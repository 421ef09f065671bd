-- Which identifier stands in 36 characters, and in four words.
use Rattle.std.proofs.Common.{◌≡◌, ◌≢◌, ℕ, zero, suc, ◌+◌, ◌-◌, ◌*◌, ◌/◌, ◌%◌, ◌^◌, ◌<◌, ◌≤◌, true, ◌&&◌, nat_le, nat_lt, List, [], ◌∷◌, ◌++◌, length, get_or, take, drop, replicate, refl, sym, ap, ◌∙◌, subst, ◌⊎◌, inl, inr, arith, length-take-le}
use Rattle.std.specs.Prelude.{IsTrue, Some, Ok, Err, if◌then◌else◌, false}
use Rattle.std.specs.Result.{result_ok}
use Rattle.std.specs.Str.{IsUtf8}
use Rattle.std.proofs.lemmas.Str.{IsUtf8-from_ascii}
use Rattle.std.specs.List.{list_all}
use Rattle.std.proofs.lemmas.List.{get_or-take, get_or_past}
use Rattle.std.proofs.lemmas.Grind.{same_number_lists}
use Rattle.std.proofs.lemmas.Bool.Decides.{nat_tests}
use Rattle.std.proofs.lemmas.Bool.{and_parts, cases_lt}
use Rattle.inst_base.specs.declared.fault.Fault.TheVariants.{BadIdentifier}
use Rattle.inst_base.specs.Text.{is_latin, is_identifier, identifier_of}
use Rattle.inst_base.proofs.TextsAreAscii.{IsAscii-latin}
use Rattle.inst_terms.specs.Identifier.{nine_from, identifier_words}
use Rattle.inst_terms.specs.inner.Identifier.{digit, StandsIn}
use Rattle.inst_terms.proofs.Base128.{same_number, number_below, digit-in_base_128, in_base_128-digit}

nat_order : (a b : ℕ) → (a < b) ⊎ (b ≤ a)
nat_order a b = cases_lt a b

pub nat_le_of : (a b : ℕ) → (b < a → a ≤ b) → a ≤ b
nat_le_of a b h = elim (nat_order b a) [ inl less ↦ h less | inr more ↦ more ]

pub record IsLatinText (id : List ℕ) : Type 0 where
  pub some : 1 ≤ length id
  pub most : length id ≤ 35
  pub latin : list_all is_latin id ≡ true

pub latin_text : (id : List ℕ) → IsTrue (is_identifier id) → IsLatinText id
latin_text id h =
    let parts = and_parts (nat_le 1 (length id) && nat_le (length id) 35) (list_all is_latin id) h in
    let lengths = and_parts (nat_le 1 (length id)) (nat_le (length id) 35) parts.0 in
    let low = lengths.0 in let high = lengths.1 in
    record { some = grind (arith, nat_tests); most = grind (arith, nat_tests); latin = parts.1 }

is_latin_above : (x : ℕ) → is_latin x ≡ true → 0 < x
is_latin_above zero h = absurd (cc)
is_latin_above (suc x) h = omega arith

pub latin_at : (xs : List ℕ) → list_all is_latin xs ≡ true → (k : ℕ) → k < length xs → 0 < get_or xs k 0
latin_at [] h k below = absurd (omega arith)
latin_at (x ∷ xs) h zero below = is_latin_above x (and_parts (is_latin x) (list_all is_latin xs) h).0
latin_at (x ∷ xs) h (suc k) below = latin_at xs (and_parts (is_latin x) (list_all is_latin xs) h).1 k (omega arith)

pub character_below : (id : List ℕ) → IsTrue (is_identifier id) → (k : ℕ) → get_or id k 0 < 128
character_below id h k = IsAscii-latin id (latin_text id h).latin k

abbrev nothing : ℕ
nothing = 0

pub zeros : (n k : ℕ) → get_or (replicate n nothing) k 0 ≡ nothing
zeros zero k = refl
zeros (suc n) zero = refl
zeros (suc n) (suc k) = zeros n k

fewer_zeros : (m n k : ℕ) → get_or (drop m (replicate n nothing)) k 0 ≡ nothing
fewer_zeros zero n k = zeros n k
fewer_zeros (suc m) zero k = refl
fewer_zeros (suc m) (suc n) k = fewer_zeros m n k

-- zeros behind a text are not seen
pub zeros_behind : (text : List ℕ) (m n k : ℕ) → get_or (text ++ drop m (replicate n nothing)) k 0 ≡ get_or text k 0
zeros_behind [] m n k = fewer_zeros m n k
zeros_behind (x ∷ xs) m n zero = refl
zeros_behind (x ∷ xs) m n (suc k) = zeros_behind xs m n k

module _ (cs : List ℕ) (len : ℕ) (room : length cs ≡ 36) (within : len ≤ 36)
    (zeros : (k : ℕ) → len ≤ k → get_or cs k 0 ≡ 0) where
  pub stands_in_front : StandsIn (take len cs) cs
  stands_in_front k below = elim (nat_order k len) [
    | inl less ↦ sym (get_or-take len cs k 0 less)
    | inr more ↦ zeros k more ∙ sym (get_or_past (take len cs) k 0 (let l = length-take-le len cs (omega arith) in omega arith))
  ]

  pub front_stands : ((k : ℕ) → k + 1 ≡ len → get_or cs k 0 ≢ 0) → (id : List ℕ) → IsTrue (is_identifier id) → StandsIn id cs → take len cs ≡ id
  front_stands last id h stands =
      let form = latin_text id h in
      let not_less : length id ≤ len = nat_le_of (length id) len (λ less. let k = length id - 1 in
      let a = stands k (omega arith) in let b = zeros k (omega arith) in let d = latin_at id form.latin k (omega arith) in absurd (omega arith)) in
      let not_more : len ≤ length id = nat_le_of len (length id) (λ less. let k = len - 1 in
      let a = stands k (omega arith) in let b = get_or_past id k 0 (omega arith) in absurd (last k (omega arith) (a ∙ b))) in
      let l = length-take-le len cs (omega arith) in
      same_number_lists (take len cs) id (omega arith) (λ k below. get_or-take len cs k 0 (omega arith) ∙ stands k (omega arith))

-- the words of characters that are those of an identifier
pub words_of_characters : (cs id : List ℕ) (first second third fourth : ℕ) → ((k : ℕ) → get_or cs k 0 ≡ get_or id k 0)
    → first ≡ nine_from cs 0 → second ≡ nine_from cs 9 → third ≡ nine_from cs 18 → fourth ≡ nine_from cs 27 → first ∷ second ∷ third ∷ fourth ∷ [] ≡ identifier_words id
words_of_characters cs id first second third fourth same a b c d =
    let nine : (start : ℕ) → nine_from cs start ≡ nine_from id start = λ start. same_number 9 (λ j. get_or cs (start + j) 0) (λ j. get_or id (start + j) 0) (λ j below. same (start + j)) in
    let e = a ∙ nine 0 in let f = b ∙ nine 9 in let g = c ∙ nine 18 in let h = d ∙ nine 27 in cc

word_at : (id : List ℕ) (i : ℕ) → i < 4 → get_or (identifier_words id) i 0 ≡ nine_from id (9 * i)
word_at id zero h = refl
word_at id (suc zero) h = refl
word_at id (suc (suc zero)) h = refl
word_at id (suc (suc (suc zero))) h = refl
word_at id (suc (suc (suc (suc i)))) h = absurd (omega arith)

-- the characters of an identifier are the digits of its words
pub character_at : (id : List ℕ) → IsTrue (is_identifier id) → (k : ℕ) → k < 36 → digit (get_or (identifier_words id) (k / 9) 0) (k % 9) ≡ get_or id k 0
character_at id h k below =
    let i = k / 9 in let j = k % 9 in
    let whole : 9 * i + j ≡ k = omega arith in
    ap (λ (x : ℕ). digit x j) (word_at id i (omega arith))
    ∙ digit-in_base_128 9 (λ n. get_or id (9 * i + n) 0) (λ n. character_below id h (9 * i + n)) j (omega arith)
    ∙ ap (λ (n : ℕ). get_or id n 0) whole

pub word_below : (id : List ℕ) → IsTrue (is_identifier id) → (start : ℕ) → nine_from id start < 2 ^ 63
word_below id h start = let below = number_below 9 (λ j. get_or id (start + j) 0) (λ j. character_below id h (start + j)) in omega arith

pub words_below : (id : List ℕ) → IsTrue (is_identifier id) → list_all (λ word. nat_lt word (2 ^ 63)) (identifier_words id) ≡ true
words_below id h =
    let a = word_below id h 0 in let b = word_below id h 9 in let c = word_below id h 18 in let d = word_below id h 27 in grind (arith, nat_tests)

pub below_at : (ws : List ℕ) → list_all (λ word. nat_lt word (2 ^ 63)) ws ≡ true → (i : ℕ) → i < length ws → get_or ws i 0 < 2 ^ 63
below_at [] h i below = absurd (omega arith)
below_at (w ∷ ws) h zero below = let first = (and_parts (nat_lt w (2 ^ 63)) (list_all (λ word. nat_lt word (2 ^ 63)) ws) h).0 in grind (arith, nat_tests)
below_at (w ∷ ws) h (suc i) below = below_at ws (and_parts (nat_lt w (2 ^ 63)) (list_all (λ word. nat_lt word (2 ^ 63)) ws) h).1 i (omega arith)

module _ (ws cs : List ℕ) (size : length ws ≡ 4)
    (digits : (k : ℕ) → k < 36 → get_or cs k 0 ≡ digit (get_or ws (k / 9) 0) (k % 9)) where
  digit_at : (i j : ℕ) → i < 4 → j < 9 → get_or cs (9 * i + j) 0 ≡ digit (get_or ws i 0) j
  digit_at i j low lower =
      let row : (9 * i + j) / 9 ≡ i = omega arith in
      let column : (9 * i + j) % 9 ≡ j = omega arith in
      digits (9 * i + j) (omega arith) ∙ ap (λ (x : ℕ). digit (get_or ws x 0) ((9 * i + j) % 9)) row ∙ ap (λ (x : ℕ). digit (get_or ws i 0) x) column

  word_is : list_all (λ word. nat_lt word (2 ^ 63)) ws ≡ true → (id : List ℕ) → StandsIn id cs → (i : ℕ) → i < 4 → nine_from id (9 * i) ≡ get_or ws i 0
  word_is all id stands i low =
      same_number 9 (λ j. get_or id (9 * i + j) 0) (digit (get_or ws i 0)) (λ j below. sym (stands (9 * i + j) (omega arith)) ∙ digit_at i j low below)
      ∙ in_base_128-digit 9 (get_or ws i 0) (below_at ws all i (omega arith))

  pub words_are : list_all (λ word. nat_lt word (2 ^ 63)) ws ≡ true → (id : List ℕ) → StandsIn id cs → identifier_words id ≡ ws
  words_are all id stands = same_number_lists (identifier_words id) ws (sym size) (λ k below. word_at id k (omega arith) ∙ word_is all id stands k (omega arith))

  pub words_stand : (id : List ℕ) → IsTrue (is_identifier id) → identifier_words id ≡ ws → StandsIn id cs
  words_stand id h is k below = digits k below ∙ ap (λ (xs : List ℕ). digit (get_or xs (k / 9) 0) (k % 9)) (sym is) ∙ character_at id h k below

-- what the test of an identifier finds
pub identifier_found : (text id : List ℕ) → result_ok (identifier_of text) ≡ Some id → IsTrue (is_identifier id) × (text ≡ id)
identifier_found text id = elim (is_identifier text) as (λ b. (is_identifier text ≡ b) → result_ok (if b then Ok text else Err BadIdentifier) ≡ Some id → IsTrue (is_identifier id) × (text ≡ id)) [
  | true ↦ λ h e. let same : text ≡ id = cc in (subst (λ (t : List ℕ). IsTrue (is_identifier t)) same h, same)
  | false ↦ λ h e. absurd (cc)
] refl

pub finds_identifier : (text id : List ℕ) → IsTrue (is_identifier id) → text ≡ id → result_ok (identifier_of text) ≡ Some id
finds_identifier text id h e = ap (λ (t : List ℕ). result_ok (identifier_of t)) e ∙ ap (λ b. result_ok (if b then Ok id else Err BadIdentifier)) h

pub utf8_identifier : (text id : List ℕ) → IsTrue (is_identifier id) → text ≡ id → IsUtf8 text
utf8_identifier text id h e = subst IsUtf8 (sym e) (IsUtf8-from_ascii id (IsAscii-latin id (latin_text id h).latin))
