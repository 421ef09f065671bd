-- The sequence of the pairs, and the index of a pair in it.
use Rattle.std.specs.Prelude.{◌≡◌, ℕ, ◌≤◌, true, List, length, slice_get, Some, Result, Ok, Err}
use Rattle.std.specs.List.{AllPairs}
use Rattle.std.specs.List.Sorted.{IsPartitionPoint}
use Rattle.inst_due.specs.Due.{comes_before}

-- Each pair comes before all later ones.
abbrev pub IsRising : List (ℕ × ℕ) → Type 0
IsRising pairs = AllPairs (λ one other. comes_before one other ≡ true) pairs

-- The index of the pair, or else the index where it would be inserted: after all that come before
-- it.
abbrev pub IsRankOf : List (ℕ × ℕ) → ℕ × ℕ → Result ℕ ℕ → Type 0
IsRankOf pairs pair (Ok n) = slice_get pairs n ≡ Some pair
IsRankOf pairs pair (Err n) =
    (n ≤ length pairs)
    × IsPartitionPoint (λ other. comes_before other pair ≡ true) (λ other.
    comes_before pair other ≡ true) pairs n
