use Rattle.std.proofs.Common.{◌≡◌, ◌≢◌, ℕ, ◌<◌, ◌≤◌, ◌%◌, true, false}
use Rattle.std.specs.Prelude.{slice_index_or}
use Rattle.std.specs.Mem.Slots.{slots_items, slots_filled, slots_len}
use Rattle.inst_row.specs.declared.row.TheConstants.{STRIDE}
use Rattle.inst_row.proofs.ended.EndedRow.of.Given as goal

abbrev pub invariant-loop-slot : goal.invariant-loop-slot
invariant-loop-slot g l = record {
  items : slots_items l.closed.slots ≡ slots_items l.fn.closed.slots;
  len : slots_len l.closed.slots ≡ slots_len l.fn.closed.slots;
  full : (k : ℕ) → l.slot ≤ k → k < slots_len l.closed.slots → slice_index_or (slots_filled l.closed.slots) k false ≡ true;
  kept : (k : ℕ) → k < slots_len l.closed.slots → k % STRIDE ≡ 0 → slice_index_or (slots_filled l.closed.slots) k false ≡ true;
  bare : (k : ℕ) → k < l.slot → k % STRIDE ≢ 0 → slice_index_or (slots_filled l.closed.slots) k false ≡ false;
}
