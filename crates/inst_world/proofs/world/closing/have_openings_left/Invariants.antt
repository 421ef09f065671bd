use Rattle.std.proofs.Common.{◌<◌, ℕ}
use Rattle.inst_journal.specs.Opened.{HasOpeningsLeft}
use Rattle.inst_world.specs.NextOpening.{books_of}
use Rattle.inst_world.proofs.world.closing.have_openings_left.Given as goal

abbrev pub invariant-loop-journal : goal.invariant-loop-journal
invariant-loop-journal l = (p : ℕ) → p < l.journal-index → HasOpeningsLeft (books_of l.journals p)
