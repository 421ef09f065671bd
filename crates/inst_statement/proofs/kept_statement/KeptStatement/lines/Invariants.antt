use Rattle.std.proofs.Common.{◌≡◌, slice_range}
use Rattle.inst_statement.specs.KeptStatement.{lines_of_statement}
use Rattle.inst_statement.proofs.kept_statement.KeptStatement.lines.Given as goal

abbrev pub invariant-loop-index : goal.invariant-loop-index
invariant-loop-index l = l.lines.items ≡ slice_range (lines_of_statement l.events l.self) l.first l.index
