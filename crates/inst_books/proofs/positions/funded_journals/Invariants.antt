use Rattle.std.proofs.Common.{◌≡◌, List, length}
use Rattle.inst_journal.specs.History.{History}
use Rattle.inst_books.specs.inner.Carrying.{AreAllPositions, AreFunded}
use Rattle.inst_books.proofs.positions.funded_journals.Given as goal

abbrev pub invariant-loop-code : goal.invariant-loop-code
invariant-loop-code l = record {
  count : length l.next.items ≡ l.code-index;
  funded : (books : List History) → AreAllPositions books l.positions → AreFunded l.old books l.new.codes l.next.items;
}
