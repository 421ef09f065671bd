-- Lists with one entry more, or with another one.
use Rattle.std.proofs.Common.{◌≡◌, ◌≢◌, ℕ, zero, suc, ◌<◌, List, [], ◌∷◌, ◌++◌, length, set, Some, refl, sym, ap, ◌∙◌, inl, inr, ◌⊎◌, ⊎_elim, arith}
use Rattle.std.specs.Prelude.{slice_get}
use Rattle.std.proofs.lemmas.Bool.{cases_eq}

pub last_at : {A : Type 0} (xs : List A) (x : A) → slice_get (xs ++ x ∷ []) (length xs) ≡ Some x
last_at [] x = refl
last_at (y ∷ ys) x = last_at ys x

pub snoc_cases : {A : Type 0} (xs : List A) (x b : A) (p : ℕ) → slice_get (xs ++ x ∷ []) p ≡ Some b → (slice_get xs p ≡ Some b) ⊎ ((p ≡ length xs) × (x ≡ b))
snoc_cases [] x b zero e = let is : x ≡ b = cc in inr (refl, is)
snoc_cases [] x b (suc p) e = let no : ⊥ = cc in absurd no
snoc_cases (y ∷ ys) x b zero e = inl e
snoc_cases (y ∷ ys) x b (suc p) e = ⊎_elim (λ old. inl old) (λ new. inr (ap suc new.0, new.1)) (snoc_cases ys x b p e)

pub get_set : {A : Type 0} (xs : List A) (i : ℕ) (v : A) → i < length xs → slice_get (set xs i v) i ≡ Some v
get_set [] i v below = absurd (omega arith)
get_set (x ∷ xs) zero v below = refl
get_set (x ∷ xs) (suc i) v below = get_set xs i v (omega arith)

pub get_set_other : {A : Type 0} (xs : List A) (i p : ℕ) (v : A) → p ≢ i → slice_get (set xs i v) p ≡ slice_get xs p
get_set_other [] i p v other = refl
get_set_other (x ∷ xs) zero zero v other = absurd (other refl)
get_set_other (x ∷ xs) zero (suc p) v other = refl
get_set_other (x ∷ xs) (suc i) zero v other = refl
get_set_other (x ∷ xs) (suc i) (suc p) v other = get_set_other xs i p v (λ same. other (ap suc same))

pub set_cases : {A : Type 0} (xs : List A) (i p : ℕ) (v x : A) → i < length xs → slice_get (set xs i v) p ≡ Some x → ((p ≡ i) × (x ≡ v)) ⊎ ((p ≢ i) × (slice_get xs p ≡ Some x))
set_cases xs i p v x below e = elim (cases_eq p i) [
  | inl same ↦
      let here : Some v ≡ Some x = sym (get_set xs i v below) ∙ ap (slice_get (set xs i v)) (sym same) ∙ e in
      let is : x ≡ v = cc in
      inl (same, is)
  | inr other ↦ inr (other, sym (get_set_other xs i p v other) ∙ e)
]
