use Rattle.std.proofs.Common.{◌≡◌, None, take}
use Rattle.inst_journal.specs.Booked.{first_some}
use Rattle.inst_journal.specs.Statement.{paid}
use Rattle.inst_journal.proofs.statement.line_paid.Given as goal

abbrev pub invariant-loop-event : goal.invariant-loop-event
invariant-loop-event l = first_some (paid l.number l.position l.id) (take l.event-index l.events) ≡ None
