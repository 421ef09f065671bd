use Rattle.std.proofs.Common.{◌≡◌, None, take}
use Rattle.inst_journal.specs.Booked.{first_some}
use Rattle.inst_journal.specs.Statement.{received}
use Rattle.inst_journal.proofs.statement.line_received.Given as goal

abbrev pub invariant-loop-event : goal.invariant-loop-event
invariant-loop-event l = first_some (received l.number l.position l.from l.id) (take l.event-index l.events) ≡ None
