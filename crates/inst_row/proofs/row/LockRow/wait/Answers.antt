use Rattle.std.proofs.Common.{rules, arith}
use Rattle.inst_row.proofs.Locks.{waits_rule}
use Rattle.inst_row.proofs.row.LockRow.wait.Goals as goal

pub compare_exchange-requires : goal.compare_exchange-requires
compare_exchange-requires g c = (search rules, search rules, waits_rule g.L.Lawful.law g.L.Lawful.history _ _ _ c.args.lock (omega arith) _)
