-- Whether two texts are the same.
use Rattle.std.proofs.Common.{◌≡◌, ◌≢◌, ◌⊎◌, inl, inr, ℕ, List, [], ◌∷◌, refl}
use Rattle.std.proofs.lemmas.Bool.Decides.{eqb_tells}

same_or : (x y : ℕ) → (x ≡ y) ⊎ (x ≢ y)
same_or x y = elim (eqb_tells x y) [ inl is ↦ inl is.1 | inr other ↦ inr other.1 ]

of_both : (x y : ℕ) (xs ys : List ℕ) → (x ≡ y) ⊎ (x ≢ y) → (xs ≡ ys) ⊎ (xs ≢ ys) → (x ∷ xs ≡ y ∷ ys) ⊎ (x ∷ xs ≢ y ∷ ys)
of_both x y xs ys (inl first) (inl rest) = inl (cc (first, rest))
of_both x y xs ys (inl first) (inr other) = inr (λ is. other (cc is))
of_both x y xs ys (inr other) rest = inr (λ is. other (cc is))

pub text_tells : (xs ys : List ℕ) → (xs ≡ ys) ⊎ (xs ≢ ys)
text_tells [] [] = inl refl
text_tells [] (y ∷ ys) = inr (λ is. cc is)
text_tells (x ∷ xs) [] = inr (λ is. cc is)
text_tells (x ∷ xs) (y ∷ ys) = of_both x y xs ys (same_or x y) (text_tells xs ys)
