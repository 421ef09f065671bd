use Rattle.std.proofs.Common.{◌≡◌}
use Rattle.inst_row.specs.Seated.{IsOn, IsFree, view_of}
use Rattle.inst_row.specs.Row.{row_id, key_of}
use Rattle.inst_hub_tests.proofs.shared.locks.visit_often.Given as goal

abbrev pub invariant-loop : goal.invariant-loop
invariant-loop g l =
    IsOn (row_id l.initial.row) (key_of l.initial.row) l.seat × IsFree l.seat
    × ((view_of l.seat).parts ≡ (view_of l.initial.seat).parts)
