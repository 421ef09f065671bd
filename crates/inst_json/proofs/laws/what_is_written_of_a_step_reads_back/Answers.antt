use Rattle.inst_json.proofs.StepLines.{step_reads_back}
use Rattle.inst_json.proofs.laws.what_is_written_of_a_step_reads_back.Goals as goal

pub returns : goal.returns
returns c = step_reads_back
