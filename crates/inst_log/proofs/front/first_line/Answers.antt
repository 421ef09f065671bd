use Rattle.std.proofs.Common.{rules}
use Rattle.inst_log.proofs.CrashDuringRepair.{first_line_is}
use Rattle.inst_log.proofs.Lines.{none_without_newline}
use Rattle.inst_log.proofs.front.first_line.Goals as goal

pub returns-in-Some : goal.returns-in-Some
returns-in-Some c = first_line_is c.args.bytes.now c.in-Some.newline (search rules) c.in-Some.ensures

pub returns-in-None : goal.returns-in-None
returns-in-None c = none_without_newline c.args.bytes.now c.in-None.ensures
