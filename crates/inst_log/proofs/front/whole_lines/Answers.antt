use Rattle.inst_log.proofs.CrashDuringRepair.{front_of_file}
use Rattle.inst_log.proofs.front.whole_lines.Goals as goal

pub returns : goal.returns
returns c = front_of_file c.args.bytes.now c.kept_len.result c.kept_len.ensures.len
