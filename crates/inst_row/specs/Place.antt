-- The places of a lock's word and slot: a cache line apart from those of other locks. A choice of
-- this hub.
use Rattle.std.specs.Prelude.{ℕ, ◌*◌}
use Rattle.inst_row.specs.declared.row.TheConstants.{STRIDE}

-- The number of the lock's word, and of its slot.
abbrev pub place : ℕ → ℕ
place p = p * STRIDE
