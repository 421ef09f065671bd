use Rattle.std.proofs.Common.{◌≡◌, length}
use Rattle.inst_books.specs.inner.Carrying.{ArePositionsOf}
use Rattle.inst_books.proofs.positions.settled_positions.Given as goal

abbrev pub invariant-loop-who : goal.invariant-loop-who
invariant-loop-who l = record {
  count : length l.positions.items ≡ l.who;
  are : ArePositionsOf l.books l.positions.items;
}
