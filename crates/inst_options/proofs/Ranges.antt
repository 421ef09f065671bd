-- The numbers of options, their ranges, and the rows of the table of ranges.
use Rattle.std.proofs.Common.{◌≡◌, ◌≤◌, ◌^◌, ℕ, List, Option, Some, None, option_map, map, slice_get, refl, sym, ap, subst, ◌∙◌, arith}
use Rattle.std.specs.Prelude.{option_and_then}
use Rattle.std.proofs.lemmas.Option.{slice_get-map}
use Rattle.clap.specs.Walk.{row_text}
use Rattle.clap.specs.Words.{Row, Text, first_of}
use Rattle.inst_options.specs.Options.{Gives, GivesNoneBelow}
use Rattle.inst_options.specs.BadOptions.{AreInside, IsInside, Range, ranges}
use Rattle.inst_options.specs.inner.BadOptions.{range_of}
use Rattle.inst_options.specs.declared.bad_option.Bound.{Bound}
use Rattle.inst_options.proofs.OptionsWithoutSettings.{given_one}

mapped : {A B : Type 0} (f : A → B) (o : Option A) (b : B) → option_map f o ≡ Some b → o ≡ None → ⊥
mapped f None b e none = cc
mapped f (Some a) b e none = cc

texts : (o : Option Row) (text : Text) → option_and_then row_text o ≡ Some text → option_and_then (λ r. slice_get r.values 0) o ≡ None → ⊥
texts None text e none = cc
texts (Some r) text e none = mapped _ (slice_get r.values 0) text e none

-- an option with a number has a text
pub has_text : (rows : List Row) (name : List ℕ) (n : ℕ) → Gives rows name n → first_of name rows ≡ None → ⊥
has_text rows name n gives none = texts _ gives.0 gives.1 none

-- an option without a number of 64 bits is in each range
pub inside_without : (rows : List Row) (r : Range) → GivesNoneBelow (2 ^ 64) rows r.name → IsInside rows r
inside_without rows r none n gives below = let least = none n gives in absurd (omega arith)

pub inside_at : (rows : List Row) (r : Range) (n : ℕ) → Gives rows r.name n → r.least ≤ n → n ≤ r.most → IsInside rows r
inside_at rows r n gives least most m other below =
    subst (λ (k : ℕ). (r.least ≤ k) × (k ≤ r.most)) (given_one rows r.name n m gives other) (least, most)

found : {A B : Type 0} (f : A → B) (o : Option A) (b : B) → option_map f o ≡ Some b → (a : A) × (o ≡ Some a) × (f a ≡ b)
found f None b e = absurd (cc)
found f (Some a) b e = (a, refl, cc)

-- the range of a row of the table
pub ranges_at : (rows : List Bound) (i : ℕ) (row : Bound) → map range_of rows ≡ ranges → slice_get rows i ≡ Some row → slice_get ranges i ≡ Some (range_of row)
ranges_at rows i row is at = ap (λ (l : List Range). slice_get l i) (sym is) ∙ slice_get-map range_of rows i ∙ ap (option_map range_of) at

-- each number is in its range if it is in that of each row
pub all_inside : (options : List Row) (rows : List Bound) → map range_of rows ≡ ranges → ((i : ℕ) (row : Bound) → slice_get rows i ≡ Some row → IsInside options (range_of row)) → AreInside options
all_inside options rows is each i r at =
    let row = found range_of (slice_get rows i) r (sym (slice_get-map range_of rows i) ∙ ap (λ (l : List Range). slice_get l i) is ∙ at) in
    subst (IsInside options) row.2 (each i row.0 row.1)
