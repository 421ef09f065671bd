-- What a test of numbers decides.
use Rattle.std.proofs.Common.{◌≡◌, ℕ, ◌≤◌, arith, nat_le, IsTrue, ◌↔◌}
use Rattle.std.proofs.lemmas.Bool.Decides.{nat_tests}

pub decides_le : (a b x y : ℕ) → a ≡ x → b ≡ y → IsTrue (nat_le a b) ↔ (x ≤ y)
decides_le a b x y same equal = grind (arith, nat_tests)
