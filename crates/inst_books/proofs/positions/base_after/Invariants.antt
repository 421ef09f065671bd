use Rattle.std.proofs.Common.{◌≡◌, ℕ, ◌+◌, ◌^◌, ◌<◌, ◌≤◌, true}
use Rattle.std.specs.List.{list_all}
use Rattle.inst_world.specs.NextOpening.{books_of}
use Rattle.inst_books.specs.Positions.{is_before_base}
use Rattle.inst_books.proofs.positions.base_after.Given as goal

abbrev pub invariant-loop-journal : goal.invariant-loop-journal
invariant-loop-journal l = record {
  stamps : (p : ℕ) → p < l.journal-index → list_all (is_before_base l.base (l.base + l.least)) (books_of l.books p) ≡ true;
  within : l.least ≤ 2 ^ 41;
}
