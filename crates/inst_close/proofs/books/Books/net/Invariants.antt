use Rattle.std.proofs.Common.{◌≡◌}
use Rattle.inst_journal.specs.Sums.{net}
use Rattle.inst_model.specs.Untold.{signed_sum_below}
use Rattle.inst_participant.specs.Together.{histories}
use Rattle.inst_close.proofs.books.Books.net.Given as goal

abbrev pub invariant-loop-slot : goal.invariant-loop-slot
invariant-loop-slot l = l.total ≡ signed_sum_below l.slot-index (λ p. net (histories l.self.books p))
