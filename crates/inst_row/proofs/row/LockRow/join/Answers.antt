use Rattle.std.proofs.Common.{rules, ap}
use Rattle.std.specs.Prelude.{Option}
use Rattle.atomic_table.specs.Table.{Me}
use Rattle.inst_row.specs.declared.view.RowView.{RowView}
use Rattle.inst_row.proofs.Locks.{unites}
use Rattle.inst_row.proofs.HistoriesSeenBySeats.{sees_both}
use Rattle.inst_row.proofs.row.LockRow.join.Goals as goal

pub join_seat-requires : goal.join_seat-requires
join_seat-requires g c = (search rules, search rules, search rules, search rules, unites g.L.Lawful.law g.L.Lawful.history _ _ _ _ _)

pub returns : goal.returns
returns g c = record {
  on = search rules;
  idle = search rules;
  parts = search rules;
  sees = sees_both c.args.seat.now c.args.other record { seat = c.join_seat.new.seat }
      (ap (λ (m : Me (Option g.row.T.Denot) (RowView g.row.E.Denot g.row.K.Denot)). m.0.fronts) c.join_seat.ensures.2);
}
