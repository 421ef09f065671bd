use Rattle.inst_json.proofs.ReplyReadsBack.{reads_back}
use Rattle.inst_json.proofs.laws.what_is_written_reads_back.Goals as goal

pub returns : goal.returns
returns c = reads_back
