-- Numbers in base 128: what digits they have, and that digits below 128 are those of their number.
use Rattle.std.proofs.Common.{◌≡◌, ℕ, zero, suc, ◌+◌, ◌-◌, ◌*◌, ◌/◌, ◌%◌, ◌^◌, ◌<◌, ◌≤◌, ◌≢◌, List, get_or, refl, sym, ap, ◌∙◌, arith}
use Rattle.std.proofs.Math.Nat.{pow-suc, pow-succ', mul_assoc, mul_comm, div-div-eq-div-mul, pow-le-pow_right}
use Rattle.std.proofs.lemmas.Nat.{pow-add, div_below, le-div}
use Rattle.inst_terms.specs.Identifier.{sum_below, in_base_128}
use Rattle.inst_terms.specs.inner.Identifier.{digit}

shift : (n : ℕ) (f : ℕ → ℕ) → sum_below (suc n) f ≡ f 0 + sum_below n (λ j. f (suc j))
unfolding sum_below
shift zero f = omega arith
shift (suc n) f = let h = shift n f in omega arith

scaled : (n : ℕ) (f g : ℕ → ℕ) → ((j : ℕ) → g j ≡ 128 * f j) → sum_below n g ≡ 128 * sum_below n f
unfolding sum_below
scaled zero f g h = refl
scaled (suc n) f g h = let i = scaled n f g h in let k = h n in omega arith

same_sum : (n : ℕ) (f g : ℕ → ℕ) → ((j : ℕ) → j < n → f j ≡ g j) → sum_below n f ≡ sum_below n g
unfolding sum_below
same_sum zero f g h = refl
same_sum (suc n) f g h =
    let i = same_sum n f g (λ j below. h j (omega arith)) in
    let k = h n (omega arith) in omega arith

pub same_number : (n : ℕ) (c d : ℕ → ℕ) → ((j : ℕ) → j < n → c j ≡ d j) → in_base_128 n c ≡ in_base_128 n d
same_number n c d h = same_sum n (λ j. c j * 128 ^ j) (λ j. d j * 128 ^ j) (λ j below. ap (λ (x : ℕ). x * 128 ^ j) (h j below))

one_up : (c j : ℕ) → c * 128 ^ suc j ≡ 128 * (c * 128 ^ j)
one_up c j = ap (λ (x : ℕ). c * x) (pow-suc 128 j) ∙ sym (mul_assoc c (128 ^ j) 128) ∙ mul_comm (c * 128 ^ j) 128

-- the lowest digit, and the others
pub horner : (n : ℕ) (c : ℕ → ℕ) → in_base_128 (suc n) c ≡ c 0 + 128 * in_base_128 n (λ j. c (suc j))
horner n c =
    let first = shift n (λ j. c j * 128 ^ j) in
    let rest = scaled n (λ j. c (suc j) * 128 ^ j) (λ j. c (suc j) * 128 ^ suc j) (λ j. one_up (c (suc j)) j) in
    omega arith

pub number_below : (n : ℕ) (c : ℕ → ℕ) → ((j : ℕ) → c j < 128) → in_base_128 n c < 128 ^ n
unfolding sum_below
number_below zero c h = omega arith
number_below (suc n) c h =
    let is = horner n c in
    let up = pow-suc 128 n in
    let rest = number_below n (λ j. c (suc j)) (λ j. h (suc j)) in
    let first = h 0 in omega arith

pub digit_suc : (w k : ℕ) → digit w (suc k) ≡ digit (w / 128) k
digit_suc w k = ap (λ (x : ℕ). x % 128) (ap (λ (x : ℕ). w / x) (pow-succ' 128 k) ∙ sym (div-div-eq-div-mul w 128 (128 ^ k)))

digit_zero : (w : ℕ) → digit w 0 ≡ w % 128
digit_zero w = omega arith

-- digits below 128 are those of their number
pub digit-in_base_128 : (n : ℕ) (c : ℕ → ℕ) → ((j : ℕ) → c j < 128) → (i : ℕ) → i < n → digit (in_base_128 n c) i ≡ c i
digit-in_base_128 zero c h i below = absurd (omega arith)
digit-in_base_128 (suc n) c h zero below =
    let is = horner n c in let first = h 0 in digit_zero (in_base_128 (suc n) c) ∙ omega arith
digit-in_base_128 (suc n) c h (suc i) below =
    let is = horner n c in
    let first = h 0 in
    let rest : in_base_128 (suc n) c / 128 ≡ in_base_128 n (λ j. c (suc j)) = omega arith in
    digit_suc (in_base_128 (suc n) c) i ∙ ap (λ (x : ℕ). digit x i) rest ∙ digit-in_base_128 n (λ j. c (suc j)) (λ j. h (suc j)) i (omega arith)

-- a number is that of its digits
pub in_base_128-digit : (n w : ℕ) → w < 128 ^ n → in_base_128 n (digit w) ≡ w
unfolding sum_below
in_base_128-digit zero w h = omega arith
in_base_128-digit (suc n) w h =
    let up = pow-suc 128 n in
    let rest = same_number n (λ j. digit w (suc j)) (digit (w / 128)) (λ j below. digit_suc w j) in
    let again = in_base_128-digit n (w / 128) (omega arith) in
    let is = horner n (digit w) in
    let first = digit_zero w in omega arith

pub two_pow_seven : (k : ℕ) → 2 ^ (7 * k) ≡ 128 ^ k
two_pow_seven zero = refl
two_pow_seven (suc k) =
    let a : 7 * suc k ≡ 7 * k + 7 = omega arith in
    ap (λ (x : ℕ). 2 ^ x) a ∙ pow-add 2 (7 * k) 7 ∙ ap (λ (x : ℕ). x * 128) (two_pow_seven k) ∙ sym (pow-suc 128 k)

one_below : (k : ℕ) → 1 ≤ 128 ^ k
one_below zero = omega arith
one_below (suc k) = let up = pow-suc 128 k in let h = one_below k in omega arith

-- a number has no digit from a power on that it is below
pub no_digit : (w n k : ℕ) → w < 2 ^ (7 * n) → n ≤ k → digit w k ≡ 0
no_digit w n k below most =
    let up : 2 ^ (7 * n) ≤ 2 ^ (7 * k) = pow-le-pow_right (omega arith) (omega arith) in
    let is = two_pow_seven k in
    let some = one_below k in
    let none : w / 128 ^ k < 1 = div_below w (128 ^ k) 1 (omega arith) (omega arith) in
    let is_none : w / 128 ^ k ≡ 0 = omega arith in
    ap (λ (x : ℕ). x % 128) is_none

small_digit : (x : ℕ) → 1 ≤ x → x < 128 → x % 128 ≢ 0
small_digit x low high e = omega arith

-- and has one at the last power that it isn't below
pub a_digit : (w n : ℕ) → 2 ^ (7 * n) ≤ w → w < 2 ^ (7 * suc n) → digit w n ≢ 0
a_digit w n least below =
    let is = two_pow_seven n in
    let next = two_pow_seven (suc n) in
    let up = pow-suc 128 n in
    let some = one_below n in
    small_digit (w / 128 ^ n) (le-div 1 w (128 ^ n) (omega arith) (omega arith)) (div_below w (128 ^ n) 128 (omega arith) (omega arith))

-- where the powers of two stand among those of 128
pub record Stands (w r : ℕ) : Type 0 where
  pub low : 2 ^ (7 * (r / 7)) ≤ w
  pub high : w < 2 ^ (7 * suc (r / 7))

pub stands : (w r : ℕ) → 2 ^ r ≤ w → w < 2 * 2 ^ r → Stands w r
stands w r least below =
    let down : 2 ^ (7 * (r / 7)) ≤ 2 ^ r = pow-le-pow_right (omega arith) (omega arith) in
    let one : 2 ^ suc r ≡ 2 ^ r * 2 = pow-suc 2 r in
    let up : 2 ^ suc r ≤ 2 ^ (7 * suc (r / 7)) = pow-le-pow_right (omega arith) (omega arith) in
    record { low = omega arith; high = omega arith }

character_at : (text : List ℕ) {j k : ℕ} → j ≡ k → get_or text j 0 ≡ get_or text k 0
character_at text e = ap (λ (k : ℕ). get_or text k 0) e

-- one character more, below those that were read
pub next_character : (text : List ℕ) (start p q : ℕ) → q ≡ p + 1 → p < 9 →
    in_base_128 (9 - p) (λ j. get_or text (start + p + j) 0) ≡ in_base_128 (9 - q) (λ j. get_or text (start + q + j) 0) * 128 + get_or text (start + p) 0
next_character text start p q next within =
    let n = 9 - q in
    let more : 9 - p ≡ suc n = omega arith in
    let character : ℕ → ℕ = λ j. get_or text (start + p + j) 0 in
    let rest = same_number n (λ j. character (suc j)) (λ j. get_or text (start + q + j) 0) (λ j below. character_at text (omega arith)) in
    let first : character 0 ≡ get_or text (start + p) 0 = character_at text (omega arith) in
    let is = horner n character in
    ap (λ (k : ℕ). in_base_128 k character) more ∙ omega arith

-- up to eight characters fit in 56 bits
pub eight_below : (n : ℕ) (c : ℕ → ℕ) → n ≤ 8 → ((j : ℕ) → c j < 128) → in_base_128 n c < 2 ^ 56
eight_below n c most h =
    let below = number_below n c h in
    let least : 128 ^ n ≤ 128 ^ 8 = pow-le-pow_right (omega arith) most in
    omega arith

-- where all digits are 0, so is the number
pub no_digits : (n : ℕ) (c : ℕ → ℕ) → ((j : ℕ) → c j ≡ 0) → in_base_128 n c ≡ 0
unfolding sum_below
no_digits zero c none = refl
no_digits (suc n) c none = let rest = no_digits n c none in let last = ap (λ (x : ℕ). x * 128 ^ n) (none n) in omega arith
