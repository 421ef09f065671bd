use Rattle.std.proofs.Common.{◌∙◌, arith}
use Rattle.inst_books.proofs.CarriedPositions.{position_funded}
use Rattle.inst_books.proofs.positions.funded_journal.Goals as goal

pub returns : goal.returns
returns c = record {
  only = c.loop-number.invariant.only;
  sum = position_funded c.loop-number.journal.events c.loop-number.invariant.only ∙ omega (arith, c.loop-number.invariant.sum, c.if-left-gt0.false);
}
