use Rattle.std.proofs.Common.{rules}
use Rattle.inst_base.proofs.fault.Fault.name.Goals as goal

pub returns-in-Expired : goal.returns-in-Expired
returns-in-Expired c = search rules
