use Rattle.std.specs.Prelude.{◌≡◌, [], ◌∷◌}
use Rattle.inst_hub.specs.Calls.{IsTellerOf}
use Rattle.inst_hub.specs.Opening.{row_parts}
use Rattle.inst_hub_tests.proofs.asking.play.Given as goal

abbrev pub invariant-loop-who : goal.invariant-loop-who
invariant-loop-who g l = IsTellerOf l.hub l.teller × (row_parts (l.teller ∷ []) ≡ row_parts (l.fn.teller ∷ []))
