use Rattle.inst_close.proofs.CopiesOfBooks.{CopiedBelow}
use Rattle.inst_close.proofs.books.Books.copies.Given as goal

abbrev pub invariant-loop-slot : goal.invariant-loop-slot
invariant-loop-slot l = CopiedBelow l.self.books l.journals.items l.slot-index
