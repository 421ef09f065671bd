use Rattle.std.proofs.Common.{arith}
use Rattle.std.proofs.lemmas.Grind.{elements}
use Rattle.inst_books.proofs.sides.books_agree.Goals as goal

pub returns-then-not-all_agree : goal.returns-then-not-all_agree
returns-then-not-all_agree c = grind (arith, elements)

pub loop-who-preserved : goal.loop-who-preserved
loop-who-preserved c = grind (arith, elements)

pub returns : goal.returns
returns c = grind (arith, elements)
