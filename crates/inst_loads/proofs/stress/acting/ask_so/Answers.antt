use Rattle.std.proofs.Common.{◌∙◌}
use Rattle.inst_loads.proofs.stress.acting.ask_so.Goals as goal

pub returns-in-Some : goal.returns-in-Some
returns-in-Some g c = let still = c.told.ensures c.args.hub.now c.call.ensures.0 in (still.0, still.1 ∙ c.call.ensures.1)
