-- Putting a value into a plain board's lists.
use Rattle.std.specs.Prelude.{◌≡◌, ◌≢◌, ◌<◌, ◌≤◌, ℕ, List, Some, length, get_or, slice_get}
use Rattle.inst_terms.specs.declared.terms.Terms.{Terms}
use Rattle.inst_board.specs.declared.plain.Kept.{Kept}
use Rattle.inst_board.specs.declared.plain.Kept.TheVariants.{Unused}

-- In the second list the terms are at their rank, and all others are unchanged.
pub record PutsTerms (old : List Terms) (rank : ℕ) (terms : Terms) (new : List Terms) : Type 0 where
  pub here : slice_get new rank ≡ Some terms
  pub elsewhere : (j : ℕ) (other : Terms) → j ≢ rank → slice_get old j ≡ Some other →
      slice_get new j ≡ Some other

-- In the second list the value is at its rank, and all others are unchanged.
pub record Puts (old : List Kept) (rank : ℕ) (value : Kept) (new : List Kept) : Type 0 where
  pub here : get_or new rank Unused ≡ value
  pub elsewhere : (j : ℕ) → j ≢ rank → get_or new j Unused ≡ get_or old j Unused
  pub within : (most : ℕ) → length old ≤ most → rank < most → length new ≤ most
