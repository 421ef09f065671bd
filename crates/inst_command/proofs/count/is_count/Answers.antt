use Rattle.std.proofs.Common.{rules}
use Rattle.inst_command.proofs.count.is_count.Goals as goal

pub returns : goal.returns
returns c = search rules
