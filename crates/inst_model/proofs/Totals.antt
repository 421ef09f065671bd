-- Sums over the participants.
use Rattle.std.proofs.Common.{◌≡◌, ℕ, ◌+◌, ◌<◌, zero, suc, ℤ, pos, ◌+ℤ◌, ◌-ℤ◌, List, [], ◌∷◌, refl, sym, ap, ◌∙◌, inl, inr, arith, sum_by}
use Rattle.std.proofs.lemmas.Bool.{cases_eq}
use Rattle.std.proofs.lemmas.Int.{ints}
use Rattle.std.proofs.lemmas.List.Sums.{sum_by-cons}
use Rattle.inst_model.specs.Untold.{sum_below, signed_sum_below}

pub sum_below_same : (n : ℕ) (f g : ℕ → ℕ) → ((k : ℕ) → k < n → f k ≡ g k) → sum_below n f ≡ sum_below n g
sum_below_same zero f g same = refl
sum_below_same (suc n) f g same =
    let first : sum_below n f ≡ sum_below n g = sum_below_same n f g (λ k below. same k (omega arith)) in
    let last : f n ≡ g n = same n (omega arith) in
    omega (arith, first, last)

pub sum_below_zero : (n : ℕ) (f : ℕ → ℕ) → ((k : ℕ) → k < n → f k ≡ 0) → sum_below n f ≡ 0
sum_below_zero zero f none = refl
sum_below_zero (suc n) f none =
    let first : sum_below n f ≡ zero = sum_below_zero n f (λ k below. none k (omega arith)) in
    let last : f n ≡ zero = none n (omega arith) in
    omega (arith, first, last)

pub sum_below_both : (n : ℕ) (f g : ℕ → ℕ) → sum_below n (λ k. f k + g k) ≡ sum_below n f + sum_below n g
sum_below_both zero f g = refl
sum_below_both (suc n) f g = omega (arith, sum_below_both n f g)

-- all but one are nothing
pub sum_below_one : (n : ℕ) (f : ℕ → ℕ) (at : ℕ) → at < n → ((k : ℕ) → (k ≡ at → ⊥) → f k ≡ 0) → sum_below n f ≡ f at
sum_below_one zero f at below none = absurd (omega arith)
sum_below_one (suc n) f at below none = elim (cases_eq at n) [
  | inl last ↦
      let first : sum_below n f ≡ zero = sum_below_zero n f (λ k under. none k (λ same. omega arith)) in
      let same : f n ≡ f at = ap f (sym last) in
      omega (arith, first, same)
  | inr before ↦
      let first : sum_below n f ≡ f at = sum_below_one n f at (omega arith) none in
      let last : f n ≡ zero = none n (λ same. before (sym same)) in
      omega (arith, first, last)
]

-- sums of sums in the other order
pub sum_below_swap : (n m : ℕ) (f : ℕ → ℕ → ℕ) → sum_below n (λ a. sum_below m (λ b. f a b)) ≡ sum_below m (λ b. sum_below n (λ a. f a b))
sum_below_swap zero m f = sym (sum_below_zero m (λ b. 0) (λ k below. refl))
sum_below_swap (suc n) m f = ap (λ k. k + sum_below m (λ b. f n b)) (sum_below_swap n m f) ∙ sym (sum_below_both m (λ b. sum_below n (λ a. f a b)) (λ b. f n b))

pub sum_by_swap : {A : Type 0} (n : ℕ) (f : ℕ → A → ℕ) (xs : List A) → sum_below n (λ k. sum_by (f k) xs) ≡ sum_by (λ x. sum_below n (λ k. f k x)) xs
sum_by_swap n f [] = sum_below_zero n (λ k. 0) (λ k below. refl)
sum_by_swap n f (x ∷ xs) =
    sum_below_same n (λ k. sum_by (f k) (x ∷ xs)) (λ k. f k x + sum_by (f k) xs) (λ k below. sum_by-cons (f k) x xs)
    ∙ sum_below_both n (λ k. f k x) (λ k. sum_by (f k) xs)
    ∙ ap (λ m. sum_below n (λ k. f k x) + m) (sum_by_swap n f xs)
    ∙ sym (sum_by-cons (λ y. sum_below n (λ k. f k y)) x xs)

signed_step : (f d x y : ℕ) (z : ℤ) → z ≡ (pos f -ℤ pos d) → (z +ℤ (pos x -ℤ pos y)) ≡ (pos (f + x) -ℤ pos (d + y))
signed_step f d x y z e = omega (arith, ints)

-- a signed sum is the sum of what comes in less the sum of what goes out
pub signed_sum_is : (n : ℕ) (f d : ℕ → ℕ) → signed_sum_below n (λ k. pos (f k) -ℤ pos (d k)) ≡ (pos (sum_below n f) -ℤ pos (sum_below n d))
signed_sum_is zero f d = omega (arith, ints)
signed_sum_is (suc n) f d = signed_step (sum_below n f) (sum_below n d) (f n) (d n) (signed_sum_below n (λ k. pos (f k) -ℤ pos (d k))) (signed_sum_is n f d)
