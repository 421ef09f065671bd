use Rattle.std.proofs.Common.{◌≡◌}
use Rattle.inst_row.specs.Seated.{IsOn}
use Rattle.inst_row.specs.Row.{row_id, key_of}
use Rattle.inst_row.proofs.row.LockRow.try_take.Given as goal

abbrev pub invariant-loop : goal.invariant-loop
invariant-loop g l =
    IsOn (row_id l.initial.self) (key_of l.initial.self) l.seat × (l.seat.seat.me ≡ l.initial.seat.seat.me)
