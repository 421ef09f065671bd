-- A row that has ended, while the values are taken out. A choice of this hub.
use Rattle.std.specs.Prelude.{◌≡◌, ◌≢◌, ℕ, true, false, slice_index_or, Some}
use Rattle.std.specs.Mem.Slots.{slots_items, slots_filled}
use mathlib.Core.Option.{some}
use lib.ListN.{get_elem?}
use Rattle.inst_row.specs.declared.ended.EndedRow.{EndedRow}
use Rattle.inst_row.specs.Place.{place}

module _ {T : Type 0} where
  -- The number of locks that the row had.
  abbrev pub locks_of : EndedRow T → ℕ
  locks_of e = e.locks

  -- The value of lock p is still there.
  pub record Lies (p : ℕ) (x : T) (e : EndedRow T) : Type 0 where
    pub there : slice_index_or (slots_filled e.closed.slots) (place p) false ≡ true
    pub value : get_elem? (slots_items e.closed.slots) (place p) ≡ some (Some x)

  -- The value of lock p was taken out.
  abbrev pub IsOut : ℕ → EndedRow T → Type 0
  IsOut p e = slice_index_or (slots_filled e.closed.slots) (place p) false ≡ false

  -- The values of the other locks are as they were.
  pub record OthersStay (p : ℕ) (old new : EndedRow T) : Type 0 where
    pub locks : locks_of new ≡ locks_of old
    pub there : (q : ℕ) (x : T) → q ≢ p → Lies q x old → Lies q x new
    pub out : (q : ℕ) → IsOut q old → IsOut q new
