use Rattle.inst_journal.specs.Statement.{statement}
use Rattle.inst_journal.proofs.WalkOverFronts.{Walked}
use Rattle.inst_journal.proofs.statement.all_lines.Given as goal

abbrev pub invariant-loop-index : goal.invariant-loop-index
invariant-loop-index l = Walked l.events l.index l.lines.items (statement l.events)
