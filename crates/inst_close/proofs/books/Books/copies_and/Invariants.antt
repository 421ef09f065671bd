use Rattle.inst_close.specs.inner.NextOpening.{AreCopiesAnd}
use Rattle.inst_close.proofs.books.Books.copies_and.Given as goal

abbrev pub invariant-loop : goal.invariant-loop
invariant-loop l = AreCopiesAnd l.self.books l.counter l.journals.items
