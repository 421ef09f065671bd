use Rattle.std.proofs.Common.{arith, ◌≡◌, is_some, true, false}
use Rattle.inst_journal.specs.Statement.{paid}
use Rattle.inst_journal.proofs.FirstSome.{found_here, none_here}
use Rattle.inst_journal.proofs.statement.line_paid.Goals as goal

pub returns-then-is_some : goal.returns-then-is_some
returns-then-is_some c =
    let some : is_some c.paid-line.result ≡ true = cc in
    found_here (paid c.args.number c.args.position c.args.id.now) c.args.events.now _ c.event-item.result _ (omega arith) c.loop-event.invariant c.event-item.is c.paid-line.ensures some

pub loop-event-preserved : goal.loop-event-preserved
loop-event-preserved c =
    let none : is_some c.paid-line.result ≡ false = cc in
    none_here (paid c.args.number c.args.position c.args.id.now) c.args.events.now _ c.event-item.result _ (omega arith) c.loop-event.invariant c.event-item.is c.paid-line.ensures none
