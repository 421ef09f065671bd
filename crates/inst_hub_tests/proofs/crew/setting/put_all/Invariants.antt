use Rattle.inst_desk.specs.Desk.{IsHandOf}
use Rattle.inst_hub_tests.proofs.crew.setting.put_all.Given as goal

abbrev pub invariant-loop-ask : goal.invariant-loop-ask
invariant-loop-ask g l = IsHandOf l.desk l.hand
