use Rattle.std.proofs.Common.{◌≡◌, ◌+◌, true}
use Rattle.std.specs.List.{list_all}
use Rattle.inst_journal.specs.Sums.{funded}
use Rattle.inst_books.specs.Positions.{is_fund}
use Rattle.inst_books.proofs.positions.funded_journal.Given as goal

abbrev pub invariant-loop-number : goal.invariant-loop-number
invariant-loop-number l = record {
  only : list_all is_fund l.journal.events ≡ true;
  sum : funded l.journal.events + l.left ≡ l.fn.position;
}
