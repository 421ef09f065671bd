-- How many seats have a lock.
use Rattle.std.proofs.Common.{◌≡◌, ℕ, eqb, cond, zero, suc, ◌+◌, ◌≤◌, ◌≢◌, List, [], ◌∷◌, ◌++◌, set, sym, refl, ap, ◌∙◌, arith}
use mathlib.Core.Option.{some, some-injective, some-ne-none}
use lib.ListN.{get_elem?}
use Rattle.atomic_table.proofs.Lists.{set_else}
use Rattle.inst_row.specs.declared.view.Front.{Front}
use Rattle.inst_row.specs.declared.view.RowView.{RowView}
use Rattle.inst_row.specs.View.{fronts_at, seats_with_lock, parts, nobody}

module _ {E : Type 0} where
  pub count-append : (p : ℕ) (xs ys : List (Front E)) → fronts_at p (xs ++ ys) ≡ fronts_at p xs + fronts_at p ys
  count-append p [] ys = omega arith
  count-append p (x ∷ xs) ys = let r = count-append p xs ys in let n : ℕ = cond (eqb x.lock p) 1 0 in omega arith

module _ {E K : Type 0} where
  pub held-set : (p : ℕ) (l : List (RowView E K)) (i : ℕ) (v w : RowView E K) → get_elem? l i ≡ some v → seats_with_lock p (set l i w) + fronts_at p v.held ≡ seats_with_lock p l + fronts_at p w.held
  held-set p [] i v w e = absurd (some-ne-none v (sym e))
  held-set p (x ∷ xs) zero v w e = let is : fronts_at p x.held ≡ fronts_at p v.held = ap (λ (u : RowView E K). fronts_at p u.held) (some-injective x v e) in omega arith
  held-set p (x ∷ xs) (suc i) v w e = let r = held-set p xs i v w e in omega arith

  pub held-snoc : (p : ℕ) (l : List (RowView E K)) (v : RowView E K) → seats_with_lock p (l ++ v ∷ []) ≡ seats_with_lock p l + fronts_at p v.held
  held-snoc p [] v = omega arith
  held-snoc p (x ∷ xs) v = let r = held-snoc p xs v in omega arith

  pub held_one : (p : ℕ) (l : List (RowView E K)) (i : ℕ) (v : RowView E K) → get_elem? l i ≡ some v → fronts_at p v.held ≤ seats_with_lock p l
  held_one p [] i v e = absurd (some-ne-none v (sym e))
  held_one p (x ∷ xs) zero v e = let is : fronts_at p x.held ≡ fronts_at p v.held = ap (λ (u : RowView E K). fronts_at p u.held) (some-injective x v e) in omega arith
  held_one p (x ∷ xs) (suc i) v e = let r = held_one p xs i v e in omega arith

  pub parts-set : (l : List (RowView E K)) (i : ℕ) (v w : RowView E K) → get_elem? l i ≡ some v → parts (set l i w) + v.parts ≡ parts l + w.parts
  parts-set [] i v w e = absurd (some-ne-none v (sym e))
  parts-set (x ∷ xs) zero v w e = let is : x.parts ≡ v.parts = ap (λ (u : RowView E K). u.parts) (some-injective x v e) in omega arith
  parts-set (x ∷ xs) (suc i) v w e = let r = parts-set xs i v w e in omega arith

  pub parts-snoc : (l : List (RowView E K)) (v : RowView E K) → parts (l ++ v ∷ []) ≡ parts l + v.parts
  parts-snoc [] v = omega arith
  parts-snoc (x ∷ xs) v = let r = parts-snoc xs v in omega arith

  pub parts_one : (l : List (RowView E K)) (i : ℕ) (v : RowView E K) → get_elem? l i ≡ some v → v.parts ≤ parts l
  parts_one l i v e = let r = parts-set l i v nobody e in omega arith

  pub parts_two : (l : List (RowView E K)) (i j : ℕ) (v w : RowView E K) → get_elem? l i ≡ some v → get_elem? l j ≡ some w → j ≢ i → v.parts + w.parts ≤ parts l
  parts_two l i j v w e f ne = let r = parts-set l i v nobody e in let s = parts_one (set l i nobody) j w (set_else l i j nobody ne ∙ f) in omega arith

  -- nobody has a lock where each view has none
  pub none_held : (p : ℕ) (l : List (RowView E K)) → ((i : ℕ) (v : RowView E K) → get_elem? l i ≡ some v → v.held ≡ []) → seats_with_lock p l ≡ 0
  none_held p [] h = refl
  none_held p (x ∷ xs) h = let a : fronts_at p x.held ≡ 0 = ap (fronts_at p) (h 0 x refl) in let r = none_held p xs (λ i v e. h (suc i) v e) in omega arith
