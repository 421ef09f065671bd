use Rattle.std.proofs.Common.{◌≡◌, ◌*◌, ◌≤◌, take, sum_by}
use Rattle.inst_base.specs.declared.cents.TheConstants.{MOST_CENTS}
use Rattle.inst_journal.specs.Sums.{reservation}
use Rattle.inst_journal.proofs.sums.reserved.Given as goal

abbrev pub invariant-loop-event : goal.invariant-loop-event
invariant-loop-event l = record {
  value : l.total ≡ sum_by (reservation l.events) (take l.event-index l.events);
  within : l.total ≤ l.event-index * MOST_CENTS;
}
