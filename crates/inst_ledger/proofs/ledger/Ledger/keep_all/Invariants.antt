use Rattle.std.proofs.Common.{◌≡◌, take}
use Rattle.inst_ledger.proofs.ledger.Ledger.keep_all.Given as goal

abbrev pub invariant-loop-event : goal.invariant-loop-event
invariant-loop-event l = l.self.book ≡ record l.fn.self.book { events = take l.event-index l.journal.events }
