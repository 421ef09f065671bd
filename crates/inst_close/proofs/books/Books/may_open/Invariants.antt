use Rattle.std.proofs.Common.{◌<◌, ℕ}
use Rattle.inst_journal.specs.Opened.{HasOpeningsLeft}
use Rattle.inst_participant.specs.Together.{histories}
use Rattle.inst_close.proofs.books.Books.may_open.Given as goal

abbrev pub invariant-loop-slot : goal.invariant-loop-slot
invariant-loop-slot l = (p : ℕ) → p < l.slot-index → HasOpeningsLeft (histories l.self.books p)
