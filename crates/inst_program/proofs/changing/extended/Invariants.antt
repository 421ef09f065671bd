use Rattle.std.proofs.Common.{◌≡◌, ℕ, length}
use Rattle.inst_world.specs.NextOpening.{books_of}
use Rattle.inst_program.proofs.changing.extended.Given as goal

abbrev pub invariant-loop-number : goal.invariant-loop-number
invariant-loop-number l = record {
  many : length l.all.items ≡ l._number;
  same : (p : ℕ) → books_of l.all.items p ≡ books_of l.fn.journals.items p;
}
