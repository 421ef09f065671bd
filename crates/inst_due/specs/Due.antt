-- The order in which an originator's transfers are due: a set of pairs of a deadline and the index
-- of a place, which contracts see as the list of its pairs in order. They are ordered by deadline,
-- when time limits end (EPC004-16, chapter 4: time-out deadline); pairs of one deadline by place.
-- The last is a choice of this hub.
use Rattle.std.specs.Prelude.{◌≡◌, ℕ, Bool, true, false, ◌&&◌, ◌||◌, not, nat_eq, nat_lt, List}
use Rattle.std.specs.Prelude.{Option, Some, None}
use Rattle.std.specs.List.{list_any}

-- True if the pair is of this deadline and this place.
abbrev pub is_of : ℕ → ℕ → ℕ × ℕ → Bool
is_of deadline index pair = nat_eq pair.0 deadline && nat_eq pair.1 index

-- True if the set has the pair.
abbrev pub has : List (ℕ × ℕ) → ℕ → ℕ → Bool
has pairs deadline index = list_any (is_of deadline index) pairs

-- True if one pair comes before the other: by deadline, then by place.
abbrev pub comes_before : ℕ × ℕ → ℕ × ℕ → Bool
comes_before one other = nat_lt one.0 other.0 || (nat_eq one.0 other.0 && nat_lt one.1 other.1)

-- True if the pair comes after the first one, or there is no first one.
abbrev pub comes_after : Option (ℕ × ℕ) → ℕ × ℕ → Bool
comes_after None pair = true
comes_after (Some before) pair = comes_before before pair

-- The set `after` has exactly the pairs of `before`, and this one.
abbrev pub Adds : List (ℕ × ℕ) → List (ℕ × ℕ) → ℕ → ℕ → Type 0
Adds before after deadline index =
    (d k : ℕ) → has after d k ≡ (has before d k || is_of deadline index (d, k))

-- The set `after` has exactly the pairs of `before` without this one.
abbrev pub TakesOut : List (ℕ × ℕ) → List (ℕ × ℕ) → ℕ → ℕ → Type 0
TakesOut before after deadline index =
    (d k : ℕ) → has after d k ≡ (has before d k && not (is_of deadline index (d, k)))

-- The pair is in the set and passes, and no other pair that passes comes before it.
pub record IsFirst (pairs : List (ℕ × ℕ)) (passes : ℕ × ℕ → Bool) (first : ℕ × ℕ) : Type 0 where
  pub there : has pairs first.0 first.1 ≡ true
  pub passing : passes first ≡ true
  pub least : (d k : ℕ) → has pairs d k ≡ true → passes (d, k) ≡ true →
      comes_before (d, k) first ≡ false

-- The first pair of the set that passes, or None if no pair passes.
abbrev pub IsLeast : List (ℕ × ℕ) → (ℕ × ℕ → Bool) → Option (ℕ × ℕ) → Type 0
IsLeast pairs passes None = (d k : ℕ) → has pairs d k ≡ true → passes (d, k) ≡ false
IsLeast pairs passes (Some first) = IsFirst pairs passes first
