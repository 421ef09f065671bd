use Rattle.inst_program.proofs.CausesOfUntakenLog.{not_good}
use Rattle.inst_program.proofs.laws.an_untaken_log_is_not_good.Goals as goal

pub returns : goal.returns
returns c = not_good
