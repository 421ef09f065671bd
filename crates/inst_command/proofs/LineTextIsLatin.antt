-- The characters of a statement line are of the basic Latin set.
use Rattle.std.proofs.Common.{◌≡◌, ℕ, zero, suc, ◌-◌, ◌/◌, ◌%◌, ◌<◌, true, false, cond, ◌==◌, List, [], ◌∷◌, ◌++◌, length, replicate, refl, arith, codes, decimal}
use Rattle.std.proofs.lemmas.Bool.Decides.{nat_tests}
use Rattle.std.proofs.lemmas.List.Folds.{list_all-append}
use Rattle.std.specs.List.{list_all}
use Rattle.std.specs.Fmt.{digits, digits_onto, digit_glyph}
use Rattle.inst_base.specs.Text.{is_latin, is_code_character}
use Rattle.std.proofs.lemmas.Bool.{and_parts}
use Rattle.inst_settings.specs.Settings.{HubSettings}
use Rattle.inst_command.specs.LineText.{left_in, right_in, kind_name, other_code, line_text}
use Rattle.inst_command.specs.declared.line.Line.{Line}
use Rattle.inst_command.specs.declared.line.LineKind.{LineKind}
use Rattle.inst_command.specs.declared.line.LineKind.TheVariants.{Funded, Defunded, Received, Paid}

pub joined : (xs ys : List ℕ) → list_all is_latin xs ≡ true → list_all is_latin ys ≡ true → list_all is_latin (xs ++ ys) ≡ true
joined [] ys hx hy = hy
joined (x ∷ xs) ys hx hy =
    let parts = and_parts (is_latin x) (list_all is_latin xs) hx in
    rw (parts.0, joined xs ys parts.1 hy) refl

spaces : (n : ℕ) → list_all is_latin (replicate n 32) ≡ true
spaces zero = refl
spaces (suc n) = spaces n

digit : (d : ℕ) → d < 10 → is_latin (digit_glyph false d) ≡ true
digit d h = grind (arith, nat_tests)

onto : (k n : ℕ) (acc : List ℕ) → list_all is_latin acc ≡ true → list_all is_latin (digits_onto k 10 false n acc) ≡ true
onto zero n acc h = h
onto (suc k) n acc h =
    let last = digit (n % 10) (omega arith) in
    elim (n / 10 == 0) as (λ b. list_all is_latin (cond b (digit_glyph false (n % 10) ∷ acc) (digits_onto k 10 false (n / 10) (digit_glyph false (n % 10) ∷ acc))) ≡ true) [
      | true ↦ rw (last, h) refl
      | false ↦ onto k (n / 10) (digit_glyph false (n % 10) ∷ acc) (rw (last, h) refl)
    ]

number : (n : ℕ) → list_all is_latin (decimal n) ≡ true
unfolding digits
number n = onto 64 n [] refl

kind : (k : LineKind) → list_all is_latin (kind_name k) ≡ true
kind Funded = refl
kind Defunded = refl
kind Received = refl
kind Paid = refl

right : (width n : ℕ) → list_all is_latin (right_in width (decimal n)) ≡ true
right width n = joined (replicate (width - length (decimal n)) 32) (decimal n) (spaces (width - length (decimal n))) (number n)

left : (width : ℕ) (text : List ℕ) → list_all is_latin text ≡ true → list_all is_latin (left_in width text) ≡ true
left width text h = joined text (replicate (width - length text) 32) h (spaces (width - length text))

together : (a b c d e f : List ℕ) → list_all is_latin a ≡ true → list_all is_latin b ≡ true → list_all is_latin c ≡ true → list_all is_latin d ≡ true → list_all is_latin e ≡ true → list_all is_latin f ≡ true →
    list_all is_latin (a ++ codes " " ++ b ++ codes " " ++ c ++ codes " " ++ d ++ codes " " ++ e ++ codes " " ++ f) ≡ true
together a b c d e f ha hb hc hd he hf = simp (list_all-append is_latin, ha, hb, hc, hd, he, hf)

pub line_text-latin : (s : HubSettings) (line : Line) → list_all is_latin (other_code s line.other) ≡ true → list_all is_latin line.id ≡ true → list_all is_latin (line_text s line) ≡ true
unfolding line_text
line_text-latin s line other id =
    together (right_in 6 (decimal line.number)) (left_in 3 (kind_name line.kind)) (left_in 11 (other_code s line.other)) (left_in 35 line.id) (right_in 11 (decimal line.cents)) (right_in 20 (decimal line.position))
    (right 6 line.number) (left 3 (kind_name line.kind) (kind line.kind)) (left 11 (other_code s line.other) other) (left 35 line.id id) (right 11 line.cents) (right 20 line.position)

code_character : (x : ℕ) → is_code_character x ≡ true → is_latin x ≡ true
code_character x h = grind (arith, nat_tests)

pub latin-code : (text : List ℕ) → list_all is_code_character text ≡ true → list_all is_latin text ≡ true
latin-code [] h = refl
latin-code (x ∷ text) h =
    let parts = and_parts (is_code_character x) (list_all is_code_character text) h in
    rw (code_character x parts.0, latin-code text parts.1) refl
