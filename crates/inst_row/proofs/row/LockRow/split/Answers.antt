use Rattle.std.proofs.Common.{rules}
use Rattle.inst_row.proofs.Locks.{tells}
use Rattle.inst_row.proofs.row.LockRow.split.Goals as goal

pub split_seat-requires : goal.split_seat-requires
split_seat-requires g c = (search rules, search rules, tells g.L.Lawful.law g.L.Lawful.history _ _ _ c.requires.free.idle.no_lock)
