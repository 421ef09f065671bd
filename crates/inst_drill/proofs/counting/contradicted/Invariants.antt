use Rattle.std.proofs.Common.{◌≡◌}
use Rattle.inst_participant.specs.Together.{histories}
use Rattle.inst_drill.specs.inner.Report.{NoneContradicts}
use Rattle.inst_drill.proofs.counting.contradicted.Given as goal

abbrev pub invariant-loop-ticket : goal.invariant-loop-ticket
invariant-loop-ticket l = NoneContradicts (histories l.books.books) l.states → l.count ≡ 0
