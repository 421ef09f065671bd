-- The outcome that a wish gives a pending transfer. Before the deadline it is the beneficiary's
-- answer, as in the rulebook (EPC004-16, chapter 4: positive and negative confirmation), but none
-- for an acceptance in the margin; at the deadline or after it, the time-out for every wish. The
-- margin and the time-out are a choice of this hub.
use Rattle.std.specs.Prelude.{ℕ, Option}
use Rattle.inst_command.specs.declared.outcome.Outcome.{Outcome}
use Rattle.inst_command.specs.Deciding.{confirmed, rejected, expired}
use Rattle.inst_board.specs.declared.wish.Wish.{Wish}
use Rattle.inst_board.specs.declared.wish.Wish.TheVariants.{Accept, Reject, Expire}

-- The outcome that the wish wants at the clock reading, for a transfer with this deadline and this
-- margin for acceptances.
abbrev pub wanted : ℕ → Wish → ℕ → ℕ → Option Outcome
wanted margin Accept deadline at = confirmed margin deadline at
wanted margin (Reject reason) deadline at = rejected reason deadline at
wanted margin Expire deadline at = expired deadline at
