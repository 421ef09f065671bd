use Rattle.inst_world.specs.NextOpening.{books_of}
use Rattle.inst_world.specs.inner.NextOpening.{AreOpenedAgain}
use Rattle.inst_world.proofs.world.next_opening.Reopened.open.Given as goal

abbrev pub invariant-loop-who : goal.invariant-loop-who
invariant-loop-who l = AreOpenedAgain l.settings (books_of l.journals) l.who (record { books = l.slots.items; board = l.board })
