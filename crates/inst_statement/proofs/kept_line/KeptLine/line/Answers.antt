use Rattle.std.proofs.Common.{arith}
use Rattle.std.proofs.lemmas.Grind.{elements}
use Rattle.inst_statement.proofs.kept_line.KeptLine.line.Goals as goal

pub bounds-events-self : goal.bounds-events-self
bounds-events-self c = grind (arith, elements)

pub unwrap-requires : goal.unwrap-requires
unwrap-requires c = grind (arith, elements)

pub returns : goal.returns
returns c = grind (arith, elements)
