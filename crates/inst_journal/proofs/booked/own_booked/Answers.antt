use Rattle.std.proofs.Common.{arith, ◌≡◌, is_some, true, false}
use Rattle.inst_journal.specs.Booked.{books_own}
use Rattle.inst_journal.proofs.FirstSome.{found_here, none_here}
use Rattle.inst_journal.proofs.booked.own_booked.Goals as goal

pub returns-then-is_some : goal.returns-then-is_some
returns-then-is_some c =
    let some : is_some c.books_own-outcome.result ≡ true = cc in
    found_here (books_own c.args.events.now c.args.id.now) c.args.events.now _ c.event-item.result _ (omega arith) c.loop-event.invariant c.event-item.is c.books_own-outcome.ensures some

pub loop-event-preserved : goal.loop-event-preserved
loop-event-preserved c =
    let none : is_some c.books_own-outcome.result ≡ false = cc in
    none_here (books_own c.args.events.now c.args.id.now) c.args.events.now _ c.event-item.result _ (omega arith) c.loop-event.invariant c.event-item.is c.books_own-outcome.ensures none
