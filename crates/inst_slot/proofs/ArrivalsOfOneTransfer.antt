-- How often a transfer arrives, and where, by its arrivals.
use Rattle.std.proofs.Common.{◌≡◌, ℕ, zero, suc, ◌+◌, ◌≤◌, arith, Bool, true, cond, List, [], ◌∷◌, refl, ap, ◌∙◌, Option, Some, None, ⊎_elim, count_by}
use Rattle.std.specs.Prelude.{slice_get}
use Rattle.std.proofs.lemmas.List.Sums.{sum_by-cons}
use Rattle.std.proofs.lemmas.Bool.{cases_Bool}
use Rattle.inst_journal.specs.Booked.{or_else}
use Rattle.inst_slot.specs.declared.arrival.Arrival.{Arrival}
use Rattle.inst_slot.specs.Book.{arrival_index, arrived_at}
use Rattle.inst_slot.specs.Opening.{is_arrival_of}

module _ (p : Arrival → Bool) where
  one_step : (x : Arrival) (A : List Arrival) → count_by p (x ∷ A) ≡ cond (p x) 1 0 + count_by p A
  one_step x A = sum_by-cons (λ y. cond (p y) 1 0) x A

  pub none_counted : (A : List Arrival) → ((j : ℕ) (y : Arrival) → slice_get A j ≡ Some y → p y ≡ true → ⊥) → count_by p A ≡ 0
  none_counted [] none = refl
  none_counted (x ∷ A) none = ⊎_elim
      (λ yes. absurd (none 0 x refl yes))
      (λ no.
      let zero_is : cond (p x) 1 0 ≡ 0 = ap {B = ℕ} (λ (b : Bool). cond b 1 0) no in
      omega (arith, one_step x A, zero_is, none_counted A (λ j y there. none (suc j) y there)))
      (cases_Bool (p x))

  pub counted_once : (A : List Arrival) → ((i j : ℕ) (x y : Arrival) → slice_get A i ≡ Some x → slice_get A j ≡ Some y → p x ≡ true → p y ≡ true → i ≡ j) → count_by p A ≤ 1
  counted_once [] unique = omega arith
  counted_once (x ∷ A) unique = ⊎_elim
      (λ yes.
      let one_is : cond (p x) 1 0 ≡ 1 = ap {B = ℕ} (λ (b : Bool). cond b 1 0) yes in
      let none : count_by p A ≡ 0 = none_counted A (λ j y there mine. absurd (apart j (unique 0 (suc j) x y refl there yes mine))) in
      omega (arith, one_step x A, one_is, none))
      (λ no.
      let zero_is : cond (p x) 1 0 ≡ 0 = ap {B = ℕ} (λ (b : Bool). cond b 1 0) no in
      omega (arith, one_step x A, zero_is, counted_once A (λ i j y z there here mine yours. fewer i j (unique (suc i) (suc j) y z there here mine yours))))
      (cases_Bool (p x))
    where
      apart : (j : ℕ) → 0 ≡ suc j → ⊥
      apart j e = absurd (omega (arith, e))

      fewer : (i j : ℕ) → suc i ≡ suc j → i ≡ j
      fewer i j e = omega (arith, e)

-- where its place was found, by its position
pub none_arrived : (from : ℕ) (id : List ℕ) (A : List Arrival) → ((j : ℕ) (y : Arrival) → slice_get A j ≡ Some y → is_arrival_of from id y ≡ true → ⊥) → arrived_at from id A ≡ None
none_arrived from id [] none = refl
none_arrived from id (x ∷ A) none = ⊎_elim
    (λ yes. absurd (none 0 x refl yes))
    (λ no. ap (λ (b : Bool). or_else (cond b x.index None) (arrived_at from id A)) no ∙ none_arrived from id A (λ j y there. none (suc j) y there))
    (cases_Bool (is_arrival_of from id x))

or_none : (o : Option ℕ) → or_else o None ≡ o
or_none None = refl
or_none (Some n) = refl

pub arrived_there : (from : ℕ) (id : List ℕ) (A : List Arrival) (i : ℕ) (x : Arrival) → slice_get A i ≡ Some x → is_arrival_of from id x ≡ true
    → ((j : ℕ) (y : Arrival) → slice_get A j ≡ Some y → is_arrival_of from id y ≡ true → i ≡ j) → arrived_at from id A ≡ x.index
arrived_there from id [] i x there mine unique = let no : ⊥ = cc in absurd no
arrived_there from id (z ∷ A) zero x there mine unique =
    let at : z ≡ x = cc in
    ap (λ (y : Arrival). or_else (arrival_index from id y) (arrived_at from id A)) at
    ∙ ap (λ (b : Bool). or_else (cond b x.index None) (arrived_at from id A)) mine
    ∙ ap (or_else x.index) (none_arrived from id A (λ j y here yours. apart j (unique (suc j) y here yours)))
    ∙ or_none x.index
  where
    apart : (j : ℕ) → 0 ≡ suc j → ⊥
    apart j e = absurd (omega (arith, e))
arrived_there from id (z ∷ A) (suc i) x there mine unique = ⊎_elim
    (λ yes. absurd (apart (unique 0 z refl yes)))
    (λ no.
    ap (λ (b : Bool). or_else (cond b z.index None) (arrived_at from id A)) no
    ∙ arrived_there from id A i x there mine (λ j y here yours. fewer j (unique (suc j) y here yours)))
    (cases_Bool (is_arrival_of from id z))
  where
    apart : suc i ≡ 0 → ⊥
    apart e = absurd (omega (arith, e))

    fewer : (j : ℕ) → suc i ≡ suc j → i ≡ j
    fewer j e = omega (arith, e)
