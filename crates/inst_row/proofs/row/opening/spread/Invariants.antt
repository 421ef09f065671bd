use Rattle.std.proofs.Common.{◌≡◌, ℕ, ◌<◌, ◌≤◌, length, None}
use Rattle.std.specs.Prelude.{slice_index_or}
use Rattle.inst_row.specs.Place.{place}
use Rattle.inst_row.proofs.row.opening.spread.Given as goal

abbrev pub invariant-loop-value : goal.invariant-loop-value
invariant-loop-value g l = record {
  long : length l.slots.items ≡ l.fn.places;
  fewer : length l.values.items ≤ length l.fn.values.items;
  left : (k : ℕ) → k < length l.values.items → slice_index_or l.values.items k None ≡ slice_index_or l.fn.values.items k None;
  spread : (k : ℕ) → length l.values.items ≤ k → k < length l.fn.values.items → slice_index_or l.slots.items (place k) None ≡ slice_index_or l.fn.values.items k None;
}

abbrev pub decreases-loop-value : goal.decreases-loop-value
decreases-loop-value g l = length l.values.items
