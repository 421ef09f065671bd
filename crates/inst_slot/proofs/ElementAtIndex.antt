-- What stands at an index of a list, and what passes a test there.
use Rattle.std.proofs.Common.{◌≡◌, ℕ, zero, suc, Bool, true, false, ◌||◌, cond, List, [], ◌∷◌, refl, sym, ap, ◌∙◌, Option, Some, None}
use Rattle.std.specs.Prelude.{slice_get, position}
use Rattle.std.specs.List.{list_any}
use Rattle.std.proofs.lemmas.Bool.{true≢false}
use Rattle.inst_slot.proofs.Positions.{later, no_later, position_cons}

-- what passes is found
passing_step : {A : Type 0} (p : A → Bool) (y : A) (xs : List A) (b : Bool) → p y ≡ b → (position p xs ≡ None → ⊥) → position p (y ∷ xs) ≡ None → ⊥
passing_step p y xs true here rest none =
    let at : cond (p y) (Some 0) (later p (position p xs)) ≡ None = sym (position_cons p y xs) ∙ none in
    let no : ◌≡◌ {A = Option ℕ} (Some 0) None = ap (λ (b : Bool). cond b (Some 0) (later p (position p xs))) (sym here) ∙ at in
    let bad : ⊥ = cc in bad
passing_step p y xs false here rest none =
    let at : cond (p y) (Some 0) (later p (position p xs)) ≡ None = sym (position_cons p y xs) ∙ none in
    rest (no_later p (position p xs) (ap (λ (b : Bool). cond b (Some 0) (later p (position p xs))) (sym here) ∙ at))

pub is_found : {A : Type 0} (p : A → Bool) (xs : List A) (i : ℕ) (x : A) → slice_get xs i ≡ Some x → p x ≡ true → position p xs ≡ None → ⊥
is_found p [] i x there passes none = let no : ⊥ = cc in no
is_found p (y ∷ ys) zero x there passes none =
    let same : y ≡ x = cc in
    let at : cond (p y) (Some 0) (later p (position p ys)) ≡ None = sym (position_cons p y ys) ∙ none in
    let no : ◌≡◌ {A = Option ℕ} (Some 0) None = ap (λ (b : Bool). cond b (Some 0) (later p (position p ys))) (sym (ap p same ∙ passes)) ∙ at in
    let bad : ⊥ = cc in bad
is_found p (y ∷ ys) (suc i) x there passes none = passing_step p y ys (p y) refl (is_found p ys i x there passes) none

-- none of them passes
pub none_there : {A : Type 0} (p : A → Bool) (xs : List A) (i : ℕ) (x : A) → list_any p xs ≡ false → slice_get xs i ≡ Some x → p x ≡ false
none_there p [] i x none there = let no : ⊥ = cc in absurd no
none_there p (y ∷ ys) zero x none there =
    let same : y ≡ x = cc in
    ap p (sym same) ∙ first (p y) (list_any p ys) none
  where
    first : (a b : Bool) → (a || b) ≡ false → a ≡ false
    first true b e = absurd (true≢false e)
    first false b e = refl
none_there p (y ∷ ys) (suc i) x none there = none_there p ys i x (second (p y) (list_any p ys) none) there
  where
    second : (a b : Bool) → (a || b) ≡ false → b ≡ false
    second true b e = absurd (true≢false e)
    second false b e = e
