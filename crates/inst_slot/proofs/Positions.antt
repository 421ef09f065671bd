-- The position of what passes a test, element by element.
use Rattle.std.proofs.Common.{◌≡◌, ℕ, suc, ◌+◌, arith, Bool, true, false, not, cond, List, [], ◌∷◌, length, refl, sym, ap, ◌∙◌, Option, Some, None, count_by}
use Rattle.std.specs.Prelude.{position, nat_lt, slice_get}
use Rattle.std.specs.List.{position_or_len}
use Rattle.std.proofs.lemmas.Bool.Decides.{nat_tests}
use Rattle.std.proofs.lemmas.List.Sums.{sum_by-cons}

module _ {X : Type 0} (p : X → Bool) where
  abbrev pub later : Option ℕ → Option ℕ
  later None = None
  later (Some n) = Some (1 + n)

  counted_on : (n l : ℕ) → nat_lt (1 + n) (suc l) ≡ nat_lt n l
  counted_on n l = grind (arith, nat_tests)

  moved_on : (b : Bool) (n : ℕ) → cond b (Some (1 + n)) None ≡ later (cond b (Some n) None)
  moved_on true n = refl
  moved_on false n = refl

  first_below : (l : ℕ) → nat_lt 0 (suc l) ≡ true
  first_below l = grind (arith, nat_tests)

  first_looked_at : (b : Bool) (n l : ℕ) → cond (nat_lt (cond (not b) (1 + n) 0) (suc l)) (Some (cond (not b) (1 + n) 0)) None ≡ cond b (Some 0) (later (cond (nat_lt n l) (Some n) None))
  first_looked_at true n l = ap (λ (b : Bool). cond b (Some 0) None) (first_below l)
  first_looked_at false n l = ap (λ (b : Bool). cond b (Some (1 + n)) None) (counted_on n l) ∙ moved_on (nat_lt n l) n

  -- of a list the first is looked at first
  pub position_cons : (x : X) (xs : List X) → position p (x ∷ xs) ≡ cond (p x) (Some 0) (later (position p xs))
  position_cons x xs = first_looked_at (p x) (position_or_len p xs) (length xs)

  pub no_later : (o : Option ℕ) → later o ≡ None → o ≡ None
  no_later None e = refl
  no_later (Some n) e = let none : ⊥ = cc in absurd none

  one_later : (o : Option ℕ) (i : ℕ) → later o ≡ Some i → (j : ℕ) × (o ≡ Some j) × (i ≡ suc j)
  one_later None i e = let none : ⊥ = cc in absurd none
  one_later (Some n) i e = let same : 1 + n ≡ i = cc in (n, refl, omega (arith, same))

  none_step : (x : X) (xs : List X) (b : Bool) → p x ≡ b → (position p xs ≡ None → count_by p xs ≡ 0) → cond b (Some 0) (later (position p xs)) ≡ None → count_by p (x ∷ xs) ≡ 0
  none_step x xs true here rest e = let none : ⊥ = cc in absurd none
  none_step x xs false here rest e =
      let zero_is : cond (p x) 1 0 ≡ 0 = ap {B = ℕ} (λ b. cond b 1 0) here in
      omega (arith, sum_by-cons (λ y. cond (p y) 1 0) x xs, rest (no_later (position p xs) e), zero_is)

  -- nothing passes
  pub none_passes : (xs : List X) → position p xs ≡ None → count_by p xs ≡ 0
  none_passes [] e = refl
  none_passes (x ∷ xs) e = none_step x xs (p x) refl (none_passes xs) (sym (position_cons x xs) ∙ e)

  passes_step : (x : X) (xs : List X) (i : ℕ) (b : Bool) → p x ≡ b → ((j : ℕ) → position p xs ≡ Some j → (y : X) × (slice_get xs j ≡ Some y) × (p y ≡ true)) → cond b (Some 0) (later (position p xs)) ≡ Some i
      → (y : X) × (slice_get (x ∷ xs) i ≡ Some y) × (p y ≡ true)
  passes_step x xs i true here rest e = let at : i ≡ 0 = cc in (x, ap (slice_get (x ∷ xs)) at, here)
  passes_step x xs i false here rest e =
      let l = one_later (position p xs) i e in
      let r = rest l.0 l.1 in
      (r.0, ap (slice_get (x ∷ xs)) l.2 ∙ r.1, r.2)

  -- what passes is there
  pub passes_at : (xs : List X) (i : ℕ) → position p xs ≡ Some i → (x : X) × (slice_get xs i ≡ Some x) × (p x ≡ true)
  passes_at [] i e = let none : ⊥ = cc in absurd none
  passes_at (x ∷ xs) i e = passes_step x xs i (p x) refl (passes_at xs) (sym (position_cons x xs) ∙ e)
