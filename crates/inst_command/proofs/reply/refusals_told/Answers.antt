use Rattle.std.proofs.Common.{rules}
use Rattle.inst_command.proofs.reply.refusals_told.Goals as goal

pub returns-in-Err : goal.returns-in-Err
returns-in-Err c = search rules
