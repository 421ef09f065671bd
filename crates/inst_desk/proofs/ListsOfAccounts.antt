-- What all hands did, once one of them did more.
use Rattle.std.proofs.Common.{◌≡◌, ℕ, zero, suc, ◌+◌, List, [], ◌∷◌, ◌++◌, set, sym, refl, ap, ◌∙◌, subst, arith, ⊎_elim}
use Rattle.std.specs.Prelude.{sum_by}
use Rattle.std.proofs.lemmas.List.Sums.{sum_by-cons, sum_by-append}
use mathlib.Core.Option.{some, some-injective, some-ne-none}
use lib.ListN.{get_elem?}
use Rattle.atomic_table.proofs.Lists.{at_set, at_snoc}
use Rattle.inst_desk.specs.declared.account.Account.{Account}
use Rattle.inst_desk.specs.declared.job.Job.{Job}
use Rattle.inst_desk.specs.Account.{all_of}

pub sum_set : (f : Account → ℕ) (l : List Account) (i : ℕ) (v w : Account) → get_elem? l i ≡ some v → sum_by f (set l i w) + f v ≡ sum_by f l + f w
sum_set f [] i v w e = absurd (some-ne-none v (sym e))
sum_set f (x ∷ xs) zero v w e =
    let is : f x ≡ f v = ap f (some-injective x v e) in
    let a = sum_by-cons f w xs in let b = sum_by-cons f x xs in omega arith
sum_set f (x ∷ xs) (suc i) v w e =
    let r = sum_set f xs i v w e in
    let a = sum_by-cons f x (set xs i w) in let b = sum_by-cons f x xs in omega arith

pub sum_snoc : (f : Account → ℕ) (l : List Account) (v : Account) → sum_by f (l ++ v ∷ []) ≡ sum_by f l + f v
sum_snoc f l v = let a = sum_by-append f l (v ∷ []) in let b = sum_by-cons f v [] in omega arith

pub weigh_all : {X : Type 0} (weight : Job → ℕ) (f : X → List Job) (l : List X) → sum_by weight (all_of f l) ≡ sum_by (λ x. sum_by weight (f x)) l
weigh_all weight f [] = refl
weigh_all {X} weight f (x ∷ xs) =
    let r = weigh_all weight f xs in
    let a = sum_by-append weight (f x) (all_of f xs) in
    let b = sum_by-cons (λ (y : X). sum_by weight (f y)) x xs in omega arith

pub weigh_set : (weight : Job → ℕ) (f : Account → List Job) (l : List Account) (i : ℕ) (v w : Account) → get_elem? l i ≡ some v → sum_by weight (all_of f (set l i w)) + sum_by weight (f v) ≡ sum_by weight (all_of f l) + sum_by weight (f w)
weigh_set weight f l i v w e =
    let r = sum_set (λ (x : Account). sum_by weight (f x)) l i v w e in
    let a = weigh_all weight f (set l i w) in let b = weigh_all weight f l in omega arith

pub weigh_snoc : (weight : Job → ℕ) (f : Account → List Job) (l : List Account) (v : Account) → sum_by weight (all_of f (l ++ v ∷ [])) ≡ sum_by weight (all_of f l) + sum_by weight (f v)
weigh_snoc weight f l v =
    let r = sum_snoc (λ (x : Account). sum_by weight (f x)) l v in
    let a = weigh_all weight f (l ++ v ∷ []) in let b = weigh_all weight f l in omega arith

pub each_set : (l : List Account) (id : ℕ) (w : Account) (P : Account → Type 0) → P w → ((i : ℕ) (v : Account) → get_elem? l i ≡ some v → P v) → (i : ℕ) (v : Account) → get_elem? (set l id w) i ≡ some v → P v
each_set l id w P here there i v e = ⊎_elim (λ t. subst P t.1 here) (λ t. there i v t.1) (at_set l id i w v e)

pub each_snoc : (l : List Account) (w : Account) (P : Account → Type 0) → P w → ((i : ℕ) (v : Account) → get_elem? l i ≡ some v → P v) → (i : ℕ) (v : Account) → get_elem? (l ++ w ∷ []) i ≡ some v → P v
each_snoc l w P new old i v e = ⊎_elim (λ t. old i v t) (λ t. subst P t new) (at_snoc l w v i e)

-- who has no part did nothing, so nothing was done where nobody has one
pub nothing_done : (f : Account → List Job) (l : List Account) → sum_by (λ v. v.parts) l ≡ 0 → ((i : ℕ) (v : Account) → get_elem? l i ≡ some v → v.parts ≡ 0 → f v ≡ []) → all_of f l ≡ []
nothing_done f [] z idle = refl
nothing_done f (x ∷ xs) z idle =
    let a = sum_by-cons (λ (v : Account). v.parts) x xs in
    let here : f x ≡ [] = idle 0 x refl (omega arith) in
    let rest : all_of f xs ≡ [] = nothing_done f xs (omega arith) (λ i v e. idle (suc i) v e) in
    ap (λ (l : List Job). l ++ all_of f xs) here ∙ rest
