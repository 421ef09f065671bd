use Rattle.std.proofs.Common.{◌≡◌, take, sum_by}
use Rattle.inst_journal.specs.Reply.{handed_out}
use Rattle.inst_journal.proofs.queries.handed_out.Given as goal

abbrev pub invariant-loop-event : goal.invariant-loop-event
invariant-loop-event l = l.total ≡ sum_by handed_out (take l.event-index l.events)
