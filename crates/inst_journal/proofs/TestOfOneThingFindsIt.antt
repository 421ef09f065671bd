-- A test that one thing alone passes finds it exactly where it is.
use Rattle.std.proofs.Common.{◌≡◌, Bool, true, List, [], ◌∷◌, inl, inr, sym, subst, arith, Contains}
use Rattle.std.specs.List.{list_any}
use Rattle.std.proofs.lemmas.Bool.{false≢true, or_cases, or_left, or_right}
use Rattle.std.proofs.lemmas.List.Elements.{Contains-append_left, Contains-append_right, Contains-append_cases, Contains-push, Contains-push_cases}

pub nothing_there : {A : Type 0} (x : A) → Contains [] x → ⊥
nothing_there x there = omega (arith, there.1)

-- what is found is there
pub found_is_there : {A : Type 0} (p : A → Bool) (x : A) (xs : List A) → ((y : A) → p y ≡ true → y ≡ x) → list_any p xs ≡ true → Contains xs x
found_is_there p x [] same any = absurd (false≢true any)
found_is_there p x (y ∷ ys) same any = elim (or_cases (p y) (list_any p ys) any) [
  | inl here ↦ subst (λ z. Contains (z ∷ ys) x) (sym (same y here)) (Contains-append_left (x ∷ []) ys x (Contains-push [] x))
  | inr later ↦ Contains-append_right (y ∷ []) ys x (found_is_there p x ys same later)
]

-- what is there is found
pub there_is_found : {A : Type 0} (p : A → Bool) (x : A) (xs : List A) → p x ≡ true → Contains xs x → list_any p xs ≡ true
there_is_found p x [] passes there = absurd (nothing_there x there)
there_is_found p x (y ∷ ys) passes there = elim (Contains-append_cases (y ∷ []) ys x there) [
  | inl here ↦
      elim (Contains-push_cases [] y x here) [
        | inl none ↦ absurd (nothing_there x none)
        | inr same ↦ or_left (p y) (list_any p ys) (subst (λ z. p z ≡ true) (sym same) passes)
      ]
  | inr later ↦ or_right (p y) (list_any p ys) (there_is_found p x ys passes later)
]
