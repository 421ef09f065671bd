use Rattle.std.proofs.Common.{◌≡◌, ◌<◌, ℕ, zero, suc, List, [], ◌∷◌, length, ap, arith, Option, Some, rules}
use Rattle.std.specs.Prelude.{slice_get}
use Rattle.inst_hub_tests.specs.declared.shared.locks.Book.{Book}
use Rattle.inst_hub_tests.proofs.shared.locks.open_two.Goals as goal

each_of_two : (xs : List (Option Book)) (a b : Book) → xs ≡ Some a ∷ Some b ∷ [] → a.lock ≡ 0 → b.lock ≡ 1 → (p : ℕ) → p < length xs
    → (x : Book) × (slice_get xs p ≡ Some (Some x)) × (x.lock ≡ p)
each_of_two xs a b is first second zero below = (a, ap (λ l. slice_get l 0) is, first)
each_of_two xs a b is first second (suc zero) below = (b, ap (λ l. slice_get l 1) is, second)
each_of_two xs a b is first second (suc (suc p)) below = let two : length xs ≡ 2 = ap length is in absurd (omega arith)

pub open-requires : goal.open-requires
open-requires c = record {
  values = each_of_two _ c.empty_book.result c.empty_book-2.result (search rules) c.empty_book.ensures c.empty_book-2.ensures;
}
