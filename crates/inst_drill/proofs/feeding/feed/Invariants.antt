use Rattle.std.proofs.Common.{◌≡◌}
use Rattle.inst_desk.specs.Desk.{IsHandOf, hand_parts}
use Rattle.inst_drill.proofs.feeding.feed.Given as goal

abbrev pub invariant-loop-index : goal.invariant-loop-index
invariant-loop-index g l = IsHandOf l.desk l.hand × (hand_parts l.hand ≡ hand_parts l.fn.hand)
