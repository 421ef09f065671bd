use Rattle.std.proofs.Common.{◌≡◌, ◌*◌, ◌≤◌, take, sum_by, cond}
use Rattle.inst_base.specs.declared.cents.TheConstants.{MOST_CENTS}
use Rattle.inst_journal.specs.Sums.{funding}
use Rattle.inst_journal.specs.Keys.{is_funding}
use Rattle.inst_journal.proofs.sums.funded.Given as goal

abbrev pub invariant-loop-event : goal.invariant-loop-event
invariant-loop-event l = record {
  value : l.total ≡ sum_by funding (take l.event-index l.events);
  within : l.total ≤ l.event-index * MOST_CENTS;
  counted : l.total ≤ sum_by (λ event. cond (is_funding event) MOST_CENTS 0) (take l.event-index l.events);
}
