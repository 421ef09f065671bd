use Rattle.std.proofs.Common.{◌≡◌}
use Rattle.inst_journal.specs.Money.{position}
use Rattle.inst_model.specs.Untold.{sum_below}
use Rattle.inst_participant.specs.Together.{histories}
use Rattle.inst_close.proofs.books.Books.sum.Given as goal

abbrev pub invariant-loop-slot : goal.invariant-loop-slot
invariant-loop-slot l = l.total ≡ sum_below l.slot-index (λ p. position (histories l.self.books p))
