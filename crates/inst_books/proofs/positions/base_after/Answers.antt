use Rattle.std.proofs.Common.{◌≡◌, ◌∙◌, ℕ, ◌+◌, ◌≤◌, ◌<◌, ◌⊎◌, inl, inr, true, List, length, below_more, refl, ap, arith}
use Rattle.std.specs.List.{list_all}
use Rattle.inst_world.specs.NextOpening.{books_of}
use Rattle.inst_world.proofs.BoardOfReopenedHub.{book_at}
use Rattle.inst_journal.specs.History.{History}
use Rattle.inst_books.specs.Positions.{is_before_base}
use Rattle.inst_books.proofs.CarriedPositions.{later_base, none_past}
use Rattle.inst_books.proofs.positions.base_after.Goals as goal
use Rattle.inst_books.proofs.positions.base_after.Goals.{then-unused-least, else-unused-least}

step : (c : goal.Joined-unused-least) (n : ℕ) → c.loop-journal.least ≤ n → c.first_unused-unused.result ≤ n → (p : ℕ) → p < c.loop-journal.journal-index + 1
    → list_all (is_before_base c.args.base (c.args.base + n)) (books_of c.args.books.now p) ≡ true
step c n more here =
    let base = c.args.base in
    let books = c.args.books.now in
    let i = c.loop-journal.journal-index in
    let its : books_of books i ≡ c.journal-item.result.events = book_at books i i c.journal-item.result c.loop-journal-test.true refl c.journal-item.is in
    below_more _ _
    (λ p below. later_base base (base + c.loop-journal.least) (base + n) (books_of books p) (omega (arith, more)) (c.loop-journal.invariant.stamps p below))
    (ap (list_all (is_before_base base (base + n))) its
    ∙ later_base base (base + c.first_unused-unused.result) (base + n) c.journal-item.result.events (omega (arith, here)) (c.first_unused-unused.ensures.stamps base))

pub loop-journal-preserved : goal.loop-journal-preserved
loop-journal-preserved c = record {
  stamps = step c c.if-unused-least.least
      (elim c.if-unused-least.branch [ then-unused-least w ↦ omega (arith, w.least-is, w.if-unused-least.true) | else-unused-least w ↦ omega (arith, w.least-is, w.if-unused-least.false) ])
      (elim c.if-unused-least.branch [ then-unused-least w ↦ omega (arith, w.least-is, w.if-unused-least.true) | else-unused-least w ↦ omega (arith, w.least-is, w.if-unused-least.false) ]);
  within = elim c.if-unused-least.branch [
    | then-unused-least w ↦ omega (arith, w.least-is, c.first_unused-unused.ensures.within)
    | else-unused-least w ↦ omega (arith, w.least-is, c.loop-journal.invariant.within)
  ];
}

within : (books : List History) (p : ℕ) → (p < length books) ⊎ (length books ≤ p)
within books p = grind arith

pub returns-clause-after : goal.returns-clause-after
returns-clause-after c = record {
  least = omega arith;
  stamps = λ p.
      elim (within c.args.books.now p) [
        | inl below ↦ c.loop-journal.invariant.stamps p (omega (arith, below, c.loop-journal-test.false))
        | inr past ↦ ap (list_all (is_before_base c.args.base (c.args.base + c.loop-journal.least))) (none_past c.args.books.now p past)
      ];
}
