-- The first thing that a function gives along a list, as a loop finds it.
use Rattle.std.proofs.Common.{◌≡◌, ℕ, ◌+◌, ◌<◌, List, [], ◌∷◌, ◌++◌, length, take, drop, get_or, Option, Some, None, is_some, true, false, refl, sym, ap, ◌∙◌, take-append-drop}
use Rattle.std.proofs.lemmas.List.{take_more}
use Rattle.std.proofs.lemmas.Bool.{false≢true}
use Rattle.inst_journal.specs.Booked.{or_else, first_some}

pub first_some-append : {A B : Type 0} (f : A → Option B) (xs ys : List A) → first_some f (xs ++ ys) ≡ or_else (first_some f xs) (first_some f ys)
first_some-append f [] ys = refl
first_some-append f (x ∷ xs) ys =
    elim (f x) as (λ o. or_else o (first_some f (xs ++ ys)) ≡ or_else (or_else o (first_some f xs)) (first_some f ys)) [
      | None ↦ first_some-append f xs ys
      | Some y ↦ refl
    ]

-- nothing is given up to and with the next element
pub first_some_more : {A B : Type 0} (f : A → Option B) (xs : List A) (i : ℕ) (d : A) → i < length xs → first_some f (take i xs) ≡ None → f (get_or xs i d) ≡ None → first_some f (take (i + 1) xs) ≡ None
first_some_more f xs i d below before here =
    ap (first_some f) (take_more xs i d below) ∙ first_some-append f (take i xs) (get_or xs i d ∷ [])
    ∙ ap (λ o. or_else o (or_else (f (get_or xs i d)) None)) before ∙ ap (λ o. or_else o None) here

-- the first thing is given at this element
pub first_some_at : {A B : Type 0} (f : A → Option B) (xs : List A) (i : ℕ) (d : A) (y : B) → i < length xs → first_some f (take i xs) ≡ None → f (get_or xs i d) ≡ Some y → first_some f xs ≡ Some y
first_some_at f xs i d y below before here =
    ap (first_some f) (sym (take-append-drop (i + 1) xs)) ∙ first_some-append f (take (i + 1) xs) (drop (i + 1) xs)
    ∙ ap (λ o. or_else o (first_some f (drop (i + 1) xs)))
    (ap (first_some f) (take_more xs i d below) ∙ first_some-append f (take i xs) (get_or xs i d ∷ [])
    ∙ ap (λ o. or_else o (or_else (f (get_or xs i d)) None)) before ∙ ap (λ o. or_else o None) here)

from_some : {A B : Type 0} (f : A → Option B) (xs : List A) (i : ℕ) (d : A) → i < length xs → first_some f (take i xs) ≡ None → (o : Option B) → f (get_or xs i d) ≡ o → is_some o ≡ true → f (get_or xs i d) ≡ first_some f xs
from_some f xs i d below before None here some = absurd (false≢true some)
from_some f xs i d below before (Some y) here some = here ∙ sym (first_some_at f xs i d y below before here)

-- the first thing, whatever it is, is given at this element
pub first_some_here : {A B : Type 0} (f : A → Option B) (xs : List A) (i : ℕ) (d : A) → i < length xs → first_some f (take i xs) ≡ None → is_some (f (get_or xs i d)) ≡ true → f (get_or xs i d) ≡ first_some f xs
first_some_here f xs i d below before some = from_some f xs i d below before (f (get_or xs i d)) refl some

from_none : {A B : Type 0} (f : A → Option B) (xs : List A) (i : ℕ) (d : A) → i < length xs → first_some f (take i xs) ≡ None → (o : Option B) → f (get_or xs i d) ≡ o → is_some o ≡ false → first_some f (take (i + 1) xs) ≡ None
from_none f xs i d below before None here none = first_some_more f xs i d below before here
from_none f xs i d below before (Some y) here none = absurd (false≢true (sym none))

-- nothing is given up to and with the next element, as a test says it
pub first_some_none : {A B : Type 0} (f : A → Option B) (xs : List A) (i : ℕ) (d : A) → i < length xs → first_some f (take i xs) ≡ None → is_some (f (get_or xs i d)) ≡ false → first_some f (take (i + 1) xs) ≡ None
first_some_none f xs i d below before none = from_none f xs i d below before (f (get_or xs i d)) refl none

-- a loop finds the first thing at its item
pub found_here : {A B : Type 0} (f : A → Option B) (xs : List A) (i : ℕ) (item : A) (r : Option B) → i < length xs → first_some f (take i xs) ≡ None → item ≡ get_or xs i item → r ≡ f item → is_some r ≡ true → r ≡ first_some f xs
found_here f xs i item r below before here given some =
    let at : r ≡ f (get_or xs i item) = given ∙ ap f here in
    at ∙ first_some_here f xs i item below before (ap is_some (sym at) ∙ some)

-- a loop finds nothing at its item
pub none_here : {A B : Type 0} (f : A → Option B) (xs : List A) (i : ℕ) (item : A) (r : Option B) → i < length xs → first_some f (take i xs) ≡ None → item ≡ get_or xs i item → r ≡ f item → is_some r ≡ false → first_some f (take (i + 1) xs) ≡ None
none_here f xs i item r below before here given none =
    let at : r ≡ f (get_or xs i item) = given ∙ ap f here in
    first_some_none f xs i item below before (ap is_some (sym at) ∙ none)
