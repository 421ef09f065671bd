use Rattle.std.proofs.Common.{◌≡◌, length}
use Rattle.inst_books.specs.inner.Replaying.{AreKeptJournals}
use Rattle.inst_books.proofs.audit.all_replayed.Given as goal

abbrev pub invariant-loop-who : goal.invariant-loop-who
invariant-loop-who l = record {
  count : length l.ledgers.items ≡ l.who;
  kept : AreKeptJournals l.settings l.journals l.ledgers.items;
}
