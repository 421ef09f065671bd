-- Texts, tests and first things, as the laws need them.
use Rattle.std.proofs.Common.{◌≡◌, ℕ, zero, suc, true, eqb, List, [], ◌∷◌, ◌++◌, Option, Some, None, refl, ap, subst, ◌∙◌, inl, inr, ◌⊎◌}
use Rattle.std.specs.List.{slice_get, AllByRecursion, Contains}
use Rattle.std.proofs.lemmas.List.Elements.{All-from_recursion, All-contains}
use Rattle.std.proofs.lemmas.Bool.{and_parts, and_from, eqb-true, eq-eqb}
use Rattle.std.proofs.lemmas.Slice.Eq.{bytes_eq-Decides}
use Rattle.std.proofs.lemmas.Option.{same_Some}
use Rattle.inst_settings.specs.Settings.{same_text}
pub use Rattle.inst_settings.proofs.CodeTellsNumber.{same_text_refl}
use Rattle.inst_journal.specs.Booked.{or_else, first_some, same_transfer}
use Rattle.inst_journal.proofs.OneMoreElement.{or_else-none}
use Rattle.inst_journal.proofs.FirstSome.{first_some-append}

-- texts that test the same are equal
pub same_text-true : (a b : List ℕ) → same_text a b ≡ true → a ≡ b
same_text-true a b e = (bytes_eq-Decides a b).0 e

pub eqb_refl : (n : ℕ) → eqb n n ≡ true
eqb_refl n = eq-eqb n n refl

-- names that test the same are equal
pub same_transfer-true : (from : ℕ) (id : List ℕ) (other_from : ℕ) (other : List ℕ) → same_transfer from id other_from other ≡ true → (other_from ≡ from) × (other ≡ id)
same_transfer-true from id other_from other e =
    let parts : (eqb other_from from ≡ true) × (same_text other id ≡ true) = and_parts (eqb other_from from) (same_text other id) e in
    (eqb-true other_from from parts.0, same_text-true other id parts.1)

pub same_transfer_refl : (from : ℕ) (id : List ℕ) → same_transfer from id from id ≡ true
same_transfer_refl from id = and_from (eqb from from) (same_text id id) (eqb_refl from) (same_text_refl id)

pub first_some_push : {A B : Type 0} (f : A → Option B) (xs : List A) (x : A) → first_some f (xs ++ x ∷ []) ≡ or_else (first_some f xs) (f x)
first_some_push f xs x = first_some-append f xs (x ∷ []) ∙ ap (or_else (first_some f xs)) (or_else-none (f x))

-- what stands stays
pub or_else_kept : {A : Type 0} (o p : Option A) (x : A) → o ≡ Some x → or_else o p ≡ Some x
or_else_kept o p x e = ap (λ q. or_else q p) e

-- what is there stood before or comes
pub or_else_cases : {A : Type 0} (o p : Option A) (x : A) → or_else o p ≡ Some x → (o ≡ Some x) ⊎ ((o ≡ None) × (p ≡ Some x))
or_else_cases None p x e = inr (refl, e)
or_else_cases (Some y) p x e = inl e

-- what holds of each element, by recursion
abbrev pub Each : {A : Type 0} → (A → Type 0) → List A → Type 0
Each P xs = AllByRecursion P xs

pub Each_push : {A : Type 0} (P : A → Type 0) (xs : List A) (y : A) → Each P xs → P y → Each P (xs ++ y ∷ [])
Each_push P [] y each here = (here, tt)
Each_push P (x ∷ xs) y each here = (each.0, Each_push P xs y each.1 here)

pub Each_weaker : {A : Type 0} (P Q : A → Type 0) (xs : List A) → ((x : A) → P x → Q x) → Each P xs → Each Q xs
Each_weaker P Q [] more each = tt
Each_weaker P Q (x ∷ xs) more each = (more x each.0, Each_weaker P Q xs more each.1)

pub Each_at : {A : Type 0} (P : A → Type 0) (xs : List A) (k : ℕ) (x : A) → Each P xs → slice_get xs k ≡ Some x → P x
Each_at P [] k x each e = cc
Each_at P (y ∷ xs) zero x each e = subst P (same_Some y x e) each.0
Each_at P (y ∷ xs) (suc k) x each e = Each_at P xs k x each.1 e

pub Each_contains : {A : Type 0} (P : A → Type 0) (xs : List A) (x : A) → Each P xs → Contains xs x → P x
Each_contains P xs x each there = All-contains P xs x (All-from_recursion P xs each) there

-- what holds of what each element gives holds of the first thing
pub first_some_each : {A B : Type 0} (f : A → Option B) (P : A → Type 0) (R : B → Type 0) (xs : List A) (y : B) → ((x : A) → P x → f x ≡ Some y → R y) → Each P xs → first_some f xs ≡ Some y → R y
first_some_each f P R [] y gives each e = cc
first_some_each f P R (x ∷ xs) y gives each e =
    elim (or_else_cases (f x) (first_some f xs) y e) [
      | inl here ↦ gives x each.0 here
      | inr later ↦ first_some_each f P R xs y gives each.1 later.1
    ]
