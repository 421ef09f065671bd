use Rattle.std.proofs.Common.{rules}
use Rattle.inst_hub.proofs.hub.Hub.meet.Goals as goal

pub returns-clause-knows : goal.returns-clause-knows
returns-clause-knows c = search rules
