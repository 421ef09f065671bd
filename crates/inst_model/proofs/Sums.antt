-- Sums over lists, term by term.
use Rattle.std.proofs.Common.{◌≡◌, ℕ, ◌+◌, ◌<◌, ◌≤◌, zero, suc, Bool, true, false, cond, List, [], ◌∷◌, length, Some, refl, sym, ap, ◌∙◌, arith, sum_by, count_by}
use Rattle.std.specs.List.{slice_get}
use Rattle.std.proofs.lemmas.List.Sums.{sum_by-cons, count_by-le-length}
use Rattle.std.proofs.lemmas.Option.{same_Some}
use Rattle.inst_model.proofs.TextsTestsAndFirstThings.{Each}

-- terms that are equal have equal sums
pub sum_by_same : {A : Type 0} (f g : A → ℕ) (xs : List A) → Each (λ x. f x ≡ g x) xs → sum_by f xs ≡ sum_by g xs
sum_by_same f g [] same = refl
sum_by_same f g (x ∷ xs) same = sum_by-cons f x xs ∙ (ap (λ n. n + sum_by f xs) same.0 ∙ ap (λ n. g x + n) (sum_by_same f g xs same.1)) ∙ sym (sum_by-cons g x xs)

pub each_of : {A : Type 0} (P : A → Type 0) (xs : List A) → ((x : A) → P x) → Each P xs
each_of P [] all = tt
each_of P (x ∷ xs) all = (all x, each_of P xs all)

-- a sum of no terms
pub sum_by_zeros : {A : Type 0} (f : A → ℕ) (xs : List A) → Each (λ x. f x ≡ 0) xs → sum_by f xs ≡ 0
sum_by_zeros f [] none = refl
sum_by_zeros f (x ∷ xs) none = omega (arith, sum_by-cons f x xs, none.0, sum_by_zeros f xs none.1)

pub sum_by_le : {A : Type 0} (f g : A → ℕ) (xs : List A) → Each (λ x. f x ≤ g x) xs → sum_by f xs ≤ sum_by g xs
sum_by_le f g [] le = omega arith
sum_by_le f g (x ∷ xs) le = omega (arith, sum_by-cons f x xs, sum_by-cons g x xs, le.0, sum_by_le f g xs le.1)

-- one that fails keeps a count below the length
pub count_below : {A : Type 0} (p : A → Bool) (xs : List A) (k : ℕ) (x : A) → slice_get xs k ≡ Some x → p x ≡ false → count_by p xs < length xs
count_below p [] k x e fails = absurd cc
count_below p (y ∷ xs) zero x e fails =
    let here : p y ≡ false = ap p (same_Some y x e) ∙ fails in
    let none : cond (p y) 1 0 ≡ zero = ap (λ b. cond b 1 0) here in
    omega (arith, sum_by-cons (λ z. cond (p z) 1 0) y xs, none, count_by-le-length p xs)
count_below p (y ∷ xs) (suc k) x e fails =
    omega (arith, sum_by-cons (λ z. cond (p z) 1 0) y xs, at_most (p y), count_below p xs k x e fails)
  where
    at_most : (b : Bool) → cond b 1 0 ≤ 1
    at_most true = omega arith
    at_most false = omega arith
