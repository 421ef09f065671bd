use Rattle.std.proofs.Common.{rules}
use Rattle.inst_base.proofs.moment.Moment.deadline.Goals as goal

pub returns : goal.returns
returns c = search rules
