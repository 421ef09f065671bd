use Rattle.inst_desk.specs.Desk.{IsHandOf}
use Rattle.inst_hub_tests.proofs.crew.desk.desk_of_two_hands.Given as goal

abbrev pub invariant-loop-round : goal.invariant-loop-round
invariant-loop-round g l = IsHandOf l.desk l.puts × IsHandOf l.desk l.takes
