use Rattle.inst_loads.specs.Jobs.{IsStill}
use Rattle.inst_loads.proofs.stress.accounts.statement.Given as goal

abbrev pub invariant-loop-page : goal.invariant-loop-page
invariant-loop-page g l = IsStill l.hub l.fn.teller l.teller
