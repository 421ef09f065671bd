-- A row of locks as contracts see it: its identity, its key and its number of locks. A choice of
-- this hub.
use Rattle.std.specs.Prelude.{ℕ}
use Rattle.atomic_table.specs.Seated.{TableId}
use Rattle.inst_row.specs.declared.row.LockRow.{LockRow}

module _ {T E K L : Type 0} where
  -- The identity of the row's table.
  abbrev pub row_id : LockRow T E K L → TableId
  row_id r = r.table.shared.table_id

  -- The key that the row was opened with.
  abbrev pub key_of : LockRow T E K L → K
  key_of r = r.table.shared.key.about.value

  -- The number of locks.
  abbrev pub size : LockRow T E K L → ℕ
  size r = r.locks
