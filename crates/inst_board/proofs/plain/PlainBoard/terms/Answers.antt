use Rattle.std.proofs.Common.{arith}
use Rattle.std.proofs.lemmas.Grind.{elements}
use Rattle.inst_board.proofs.plain.PlainBoard.terms.Goals as goal

pub index-requires : goal.index-requires
index-requires c = grind (arith, elements)

pub returns : goal.returns
returns c = grind (arith, elements)
