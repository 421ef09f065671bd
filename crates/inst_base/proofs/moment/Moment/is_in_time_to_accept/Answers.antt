use Rattle.std.proofs.Common.{rules}
use Rattle.inst_base.proofs.moment.Moment.is_in_time_to_accept.Goals as goal

pub returns : goal.returns
returns c = search rules
