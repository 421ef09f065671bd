-- A letter and a number are an identifier.
use Rattle.std.proofs.Common.{◌≡◌, ℕ, suc, ◌+◌, ◌<◌, ◌≤◌, ◌^◌, true, List, [], ◌∷◌, ◌++◌, length, length-append, get_or, refl, ap, ◌∙◌, arith}
use Rattle.std.specs.List.{list_all}
use Rattle.std.specs.Fmt.{decimal, IsBoundedDecimal}
use Rattle.std.proofs.lemmas.Bool.Decides.{nat_tests}
use Rattle.std.proofs.lemmas.List.Folds.{list_all-append}
use Rattle.inst_base.specs.Text.{is_latin, is_identifier}

digit : (d : ℕ) → 48 ≤ d → d ≤ 57 → is_latin d ≡ true
digit d least most = grind (arith, nat_tests)

digits : (xs : List ℕ) → ((i : ℕ) → i < length xs → (48 ≤ get_or xs i 0) × (get_or xs i 0 ≤ 57)) → list_all is_latin xs ≡ true
digits [] each = refl
digits (x ∷ xs) each =
    let first = each 0 (omega arith) in
    rw (digit x first.0 first.1, digits xs (λ i below. each (suc i) (omega arith))) refl

identifier : (text : List ℕ) → 1 ≤ length text → length text ≤ 35 → list_all is_latin text ≡ true → is_identifier text ≡ true
identifier text some few latin = grind (arith, nat_tests)

pub named : (letter text : List ℕ) (n : ℕ) → length letter ≡ 1 → list_all is_latin letter ≡ true → n < 2 ^ 32 → IsBoundedDecimal n → text ≡ letter ++ decimal n → is_identifier text ≡ true
named letter text n one latin small bounded is =
    let long : length text ≡ length letter + length (decimal n) = ap length is ∙ length-append letter (decimal n) in
    let few = bounded.len_u32 small in
    identifier text (omega (arith, long, one)) (omega (arith, long, one, few))
    (ap (list_all is_latin) is ∙ (list_all-append is_latin letter (decimal n) ∙ rw (latin, digits (decimal n) bounded.all_digits) refl))
