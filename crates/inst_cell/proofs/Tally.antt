-- How many seats have a role, and what was noted.
use Rattle.std.proofs.Common.{◌≡◌, ℕ, eqb, cond, zero, suc, ◌+◌, ◌<◌, ◌≤◌, ◌≢◌, ◌⊎◌, Bool, List, [], ◌∷◌, ◌++◌, take, drop, set, inl, inr, ⊎_elim, sym, refl, ap, ◌∙◌, subst, arith, eq-eqb, ne_eqb, Some}
use mathlib.Core.Logic.{dite}
use native.Mathlib.Decide.{ℕ_discrete}
use mathlib.Core.Option.{some, some-injective, some-ne-none}
use lib.ListN.{get_elem?}
use Rattle.atomic_table.proofs.Lists.{set_else}
use Rattle.inst_cell.specs.declared.view.View.{View}
use Rattle.inst_cell.specs.View.{count, note, roles_from}
use Rattle.inst_cell.specs.Rule.{seats_with_role}

abbrev pub is_at : ℕ → ℕ → ℕ
is_at p q = cond (eqb p q) 1 0

abbrev nobody : View
nobody = record { places = 0; margin = 0; roles = []; notes = []; facts = []; heard = [] }

pub count-append : (p : ℕ) (xs ys : List ℕ) → count p (xs ++ ys) ≡ count p xs + count p ys
count-append p [] ys = omega arith
count-append p (x ∷ xs) ys = let r = count-append p xs ys in let n : ℕ = is_at x p in omega arith

pub count-cut : (p : ℕ) (xs : List ℕ) → count p (take 1 xs) + count p (drop 1 xs) ≡ count p xs
count-cut p [] = refl
count-cut p (x ∷ xs) = let n : ℕ = is_at x p in omega arith

pub held-set : (p : ℕ) (l : List View) (i : ℕ) (v w : View) → get_elem? l i ≡ some v → seats_with_role p (set l i w) + count p v.roles ≡ seats_with_role p l + count p w.roles
held-set p [] i v w e = absurd (some-ne-none v (sym e))
held-set p (x ∷ xs) zero v w e = let is : count p x.roles ≡ count p v.roles = ap (λ (u : View). count p u.roles) (some-injective x v e) in omega arith
held-set p (x ∷ xs) (suc i) v w e = let r = held-set p xs i v w e in omega arith

pub held-snoc : (p : ℕ) (l : List View) (v : View) → seats_with_role p (l ++ v ∷ []) ≡ seats_with_role p l + count p v.roles
held-snoc p [] v = omega arith
held-snoc p (x ∷ xs) v = let r = held-snoc p xs v in omega arith

pub held_one : (p : ℕ) (l : List View) (i : ℕ) (v : View) → get_elem? l i ≡ some v → count p v.roles ≤ seats_with_role p l
held_one p l i v e = let r = held-set p l i v nobody e in omega arith

pub held_two : (p : ℕ) (l : List View) (i j : ℕ) (v w : View) → get_elem? l i ≡ some v → get_elem? l j ≡ some w → j ≢ i → count p v.roles + count p w.roles ≤ seats_with_role p l
held_two p l i j v w e f ne =
    let r = held-set p l i v nobody e in
    let s = held_one p (set l i nobody) j w (set_else l i j nobody ne ∙ f) in
    omega arith

-- what was noted after a write is what was written, or what had been noted elsewhere
pub noted_then : (ns : List (ℕ × ℕ)) (x n y m : ℕ) → note ((x, n) ∷ ns) y ≡ Some m → ((y ≡ x) × (n ≡ m)) ⊎ ((y ≢ x) × (note ns y ≡ Some m))
noted_then ns x n y m e = dite (ℕ_discrete x y)
    (λ same.
    let k : Some n ≡ Some m = subst (λ (c : Bool). cond c (Some n) (note ns y) ≡ Some m) (eq-eqb x y same) e in
    let is : n ≡ m = cc in inl (sym same, is))
    (λ other. inr ((λ t. other (sym t)), subst (λ (c : Bool). cond c (Some n) (note ns y) ≡ Some m) (ne_eqb x y other) e))

pub note_else : (ns : List (ℕ × ℕ)) (x n y : ℕ) → x ≢ y → note ((x, n) ∷ ns) y ≡ note ns y
note_else ns x n y ne = ap (λ (c : Bool). cond c (Some n) (note ns y)) (ne_eqb x y ne)

pub count-from : (p a n : ℕ) → (count p (roles_from a n) ≤ 1) × (p < a → count p (roles_from a n) ≡ 0)
count-from p a zero = (omega arith, λ h. refl)
count-from p a (suc n) = let r = count-from p (suc a) n in let rest = r.1 in let le = r.0 in let c : ℕ = is_at a p in dite (ℕ_discrete a p)
    (λ e. let is : c ≡ 1 = ap (λ (b : Bool). cond b 1 0) (eq-eqb a p e) in let gone : count p (roles_from (suc a) n) ≡ 0 = rest (omega arith) in (omega arith, λ h. absurd (omega arith)))
    (λ ne. let is : c ≡ 0 = ap (λ (b : Bool). cond b 1 0) (ne_eqb a p ne) in (omega arith, λ h. (let gone : count p (roles_from (suc a) n) ≡ 0 = rest (omega arith) in omega arith)))

pub count_one : (p : ℕ) → 0 < count p (p ∷ [])
count_one p = let is : is_at p p ≡ 1 = ap (λ (b : Bool). cond b 1 0) (eq-eqb p p refl) in omega arith

-- what is noted of two lists is noted in one of them
pub note_cases : (ns ms : List (ℕ × ℕ)) (x n : ℕ) → note (ns ++ ms) x ≡ Some n → (note ns x ≡ Some n) ⊎ (note ms x ≡ Some n)
note_cases [] ms x n h = inr h
note_cases (y ∷ ys) ms x n h = dite (ℕ_discrete y.0 x)
    (λ e. let b = eq-eqb y.0 x e in inl (subst (λ (c : Bool). cond c (Some y.1) (note ys x) ≡ Some n) (sym b) (subst (λ (c : Bool). cond c (Some y.1) (note (ys ++ ms) x) ≡ Some n) b h)))
    (λ ne. let b = ne_eqb y.0 x ne in ⊎_elim
    (λ l. inl (subst (λ (c : Bool). cond c (Some y.1) (note ys x) ≡ Some n) (sym b) l))
    (λ r. inr r)
    (note_cases ys ms x n (subst (λ (c : Bool). cond c (Some y.1) (note (ys ++ ms) x) ≡ Some n) b h)))

-- what is written to the list is there
pub set_here : (l : List View) (i : ℕ) (v w : View) → get_elem? l i ≡ some v → get_elem? (set l i w) i ≡ some w
set_here [] i v w e = absurd (some-ne-none v (sym e))
set_here (x ∷ xs) zero v w e = refl
set_here (x ∷ xs) (suc i) v w e = set_here xs i v w e

pub only_role : (i q : ℕ) → 0 < count q (i ∷ []) → q ≡ i
only_role i q h = dite (ℕ_discrete i q) (λ e. sym e) (λ ne. let is : is_at i q ≡ 0 = ap (λ (b : Bool). cond b 1 0) (ne_eqb i q ne) in absurd (omega arith))

pub count_cases : (p : ℕ) (xs ys : List ℕ) → 0 < count p (xs ++ ys) → (0 < count p xs) ⊎ (0 < count p ys)
count_cases p xs ys h = let e = count-append p xs ys in dite (ℕ_discrete (count p xs) 0) (λ z. inr (omega arith)) (λ ne. inl (omega arith))

pub count_left : (p : ℕ) (xs ys : List ℕ) → 0 < count p xs → 0 < count p (xs ++ ys)
count_left p xs ys h = let e = count-append p xs ys in omega arith

pub count_right : (p : ℕ) (xs ys : List ℕ) → 0 < count p ys → 0 < count p (xs ++ ys)
count_right p xs ys h = let e = count-append p xs ys in omega arith
