-- A participant's code tells its number, since no code stands twice.
use Rattle.std.proofs.Common.{◌≡◌, ℕ, zero, suc, Bool, true, false, cond, not, nat_lt, List, [], ◌∷◌, length, slice_get, unwrap_or, refl, ap, arith}
use Rattle.std.proofs.lemmas.Bool.{and_parts, or_parts, not-true}
use Rattle.std.proofs.lemmas.Bool.Decides.{nat_tests}
use Rattle.std.proofs.lemmas.Slice.Eq.{bytes_eq-Decides}
use Rattle.std.specs.List.{list_any}
use Rattle.inst_settings.specs.Settings.{same_text}
use Rattle.inst_settings.specs.Lawful.{are_different}

-- the number of a code's first place
abbrev pub number_of_code : List (List ℕ) → List ℕ → ℕ
number_of_code [] code = 0
number_of_code (first ∷ rest) code = cond (same_text code first) 0 (suc (number_of_code rest code))

-- a text is the same as itself
pub same_text_refl : (text : List ℕ) → same_text text text ≡ true
same_text_refl text = (bytes_eq-Decides text text).1 refl

-- what no element passes, the one at an index doesn't
fails_at : (p : List ℕ → Bool) (codes : List (List ℕ)) (i : ℕ) → list_any p codes ≡ false → nat_lt i (length codes) ≡ true → p (unwrap_or (slice_get codes i) []) ≡ false
fails_at p [] i none below = absurd (let h = below in grind (arith, nat_tests))
fails_at p (first ∷ rest) zero none below = (or_parts (p first) (list_any p rest) none).0
fails_at p (first ∷ rest) (suc i) none below = fails_at p rest i (or_parts (p first) (list_any p rest) none).1 (let h = below in grind (arith, nat_tests))

pub number_of_code-at : (codes : List (List ℕ)) (i : ℕ) → are_different codes ≡ true → nat_lt i (length codes) ≡ true → number_of_code codes (unwrap_or (slice_get codes i) []) ≡ i
number_of_code-at [] i different below = absurd (let h = below in grind (arith, nat_tests))
number_of_code-at (first ∷ rest) zero different below = rw (same_text_refl first) refl
number_of_code-at (first ∷ rest) (suc i) different below =
    let parts = and_parts (not (list_any (λ other. same_text other first) rest)) (are_different rest) different in
    let inside : nat_lt i (length rest) ≡ true = let h = below in grind (arith, nat_tests) in
    let other : same_text (unwrap_or (slice_get rest i) []) first ≡ false = fails_at (λ other. same_text other first) rest i (not-true _ parts.0) inside in
    rw other (ap suc (number_of_code-at rest i parts.1 inside))
