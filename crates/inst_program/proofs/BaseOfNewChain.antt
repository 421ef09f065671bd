-- The base of a new chain: the one that is given, if any, and after every time stamp.
use Rattle.std.proofs.Common.{◌≡◌, ℕ, ◌≤◌, List, Option, None, Some, IfSome, unwrap_or, arith}
use Rattle.inst_journal.specs.History.{History}
use Rattle.inst_world.specs.NextOpening.{books_of}
use Rattle.inst_books.specs.Positions.{IsBaseAfter}
use Rattle.inst_books.proofs.CarriedPositions.{later_base}

pub given_base : (given : Option ℕ) (least n : ℕ) → n ≡ unwrap_or given least → IfSome given (λ base. n ≡ base)
given_base None least n is = tt
given_base (Some base) least n is = is

-- a later base is after the time stamps too
pub later_after : (old n m : ℕ) (journals : List History) → n ≤ m → IsBaseAfter old journals n → IsBaseAfter old journals m
later_after old n m journals more after = record {
  least = omega (arith, more, after.least);
  stamps = λ p. later_base old n m (books_of journals p) more (after.stamps p);
}
