use Rattle.std.proofs.Common.{◌≡◌, ℕ, ◌+◌, ◌^◌, ◌≤◌, true, take}
use Rattle.std.specs.List.{list_all}
use Rattle.inst_books.specs.Positions.{is_before_base}
use Rattle.inst_books.proofs.positions.first_unused.Given as goal

abbrev pub invariant-loop-event : goal.invariant-loop-event
invariant-loop-event l = record {
  stamps : (base : ℕ) → list_all (is_before_base base (base + l.least)) (take l.event-index l.journal.events) ≡ true;
  within : l.least ≤ 2 ^ 41;
}
