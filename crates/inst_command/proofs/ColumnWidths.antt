-- What the format's options write for a column of a statement line.
use Rattle.std.proofs.Common.{◌≡◌, ℕ, zero, suc, ◌-◌, ◌<◌, ◌≤◌, ◌^◌, Bool, true, false, ◌==◌, ◌&&◌, IsTrue, nat_lt, nat_le, List, [], ◌∷◌, ◌++◌, length, replicate, refl, ap, arith, codes, decimal, append_assoc, append-nil}
use Rattle.std.proofs.Math.Nat.{sub-zero, sub_self}
use Rattle.std.proofs.Math.Numerals.{sub-one}
use Rattle.std.proofs.lemmas.Bool.Decides.{nat_tests}
use Rattle.std.specs.Char.{encode_utf8}
use Rattle.std.specs.List.{list_all, repeat}
use Rattle.std.specs.Fmt.{format_spec, styled_text, styled_decimal, padded, padded_integral, take_chars, char_count}
use Rattle.inst_base.specs.Text.{is_latin, is_identifier}
use Rattle.std.proofs.lemmas.Bool.{and_parts}
use Rattle.inst_command.specs.LineText.{left_in, right_in}

suc_not_zero : (n : ℕ) → (suc n == 0) ≡ false
suc_not_zero n = grind (arith, nat_tests)

repeat_one : (n c : ℕ) → repeat n (c ∷ []) ≡ replicate n c
repeat_one zero c = refl
repeat_one (suc n) c = ap (λ rest. c ∷ rest) (repeat_one n c)

-- each byte is a character of its own
char_count-each : (p : ℕ → Bool) → ((x : ℕ) → p x ≡ true → x < 128) → (text : List ℕ) → list_all p text ≡ true → char_count text ≡ length text
unfolding char_count
char_count-each p below [] h = refl
char_count-each p below (x ∷ text) h =
    let parts = and_parts (p x) (list_all p text) h in
    let start : nat_lt x 128 ≡ true = let small = below x parts.0 in grind (arith, nat_tests) in
    rw (start, char_count-each p below text parts.1) (omega arith)

take_chars-each : (p : ℕ → Bool) → ((x : ℕ) → p x ≡ true → x < 128) → (n : ℕ) (text : List ℕ) → list_all p text ≡ true → length text ≤ n → take_chars n text ≡ text
unfolding take_chars
take_chars-each p below n [] h fits = refl
take_chars-each p below zero (x ∷ text) h fits = absurd (omega arith)
take_chars-each p below (suc n) (x ∷ text) h fits =
    let parts = and_parts (p x) (list_all p text) h in
    let start : nat_lt x 128 ≡ true = let small = below x parts.0 in grind (arith, nat_tests) in
    rw (start, suc_not_zero n, sub-one) (ap (λ rest. x ∷ rest) (take_chars-each p below n text parts.1 (omega arith)))

pub left_column : (p : ℕ → Bool) → ((x : ℕ) → p x ≡ true → x < 128) → (width : ℕ) (text : List ℕ) → list_all p text ≡ true → length text < 2 ^ 64 → styled_text (format_spec 32 1 0 (suc width) (2 ^ 64 - 1)) text ≡ left_in (suc width) text
unfolding padded encode_utf8
left_column p below width text each fits =
    rw (take_chars-each p below (2 ^ 64 - 1) text each (omega arith), char_count-each p below text each, repeat_one, suc_not_zero width, sub-zero) refl

pub right_column : (width : ℕ) (n : ℕ) → styled_decimal (format_spec 32 3 0 (suc width) (2 ^ 64 - 1)) n ≡ right_in (suc width) (decimal n)
unfolding padded_integral encode_utf8 char_count
right_column width n = rw (suc_not_zero width, repeat_one, sub_self) (simp (append-nil, sub-zero))

pub identifier_form : (text : List ℕ) → IsTrue (is_identifier text) → (list_all is_latin text ≡ true) × (length text ≤ 35)
identifier_form text h =
    let parts = and_parts (nat_le 1 (length text) && nat_le (length text) 35) (list_all is_latin text) h in
    let short = (and_parts (nat_le 1 (length text)) (nat_le (length text) 35) parts.0).1 in
    (parts.1, grind (arith, nat_tests))

pub columns_are : {a b c d e f : List ℕ} (number kind other id cents position : List ℕ) → a ≡ number → b ≡ kind → c ≡ other → d ≡ id → e ≡ cents → f ≡ position →
    a ++ (32 ∷ (b ++ (32 ∷ (c ++ (32 ∷ (d ++ (32 ∷ (e ++ (32 ∷ f))))))))) ≡ number ++ codes " " ++ kind ++ codes " " ++ other ++ codes " " ++ id ++ codes " " ++ cents ++ codes " " ++ position
columns_are number kind other id cents position ea eb ec ed ee ef = rw (ea, eb, ec, ed, ee, ef) (simp append_assoc)
