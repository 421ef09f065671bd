use Rattle.std.proofs.Common.{◌≡◌, take}
use Rattle.inst_transfers.specs.State.{rows_of}
use Rattle.inst_ledger.specs.Inbox.{entries_at}
use Rattle.inst_ledger.proofs.ledger.Ledger.entries.Given as goal

abbrev pub invariant-loop-position : goal.invariant-loop-position
invariant-loop-position l = l.entries.items ≡ entries_at (rows_of l.self.book.who l.self.book.events) (take l.position-index l.positions)
