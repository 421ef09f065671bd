use Rattle.inst_logged.proofs.CausesOfRefusal.{not_taken}
use Rattle.inst_logged.proofs.laws.a_refused_log_is_not_taken.Goals as goal

pub returns : goal.returns
returns c = not_taken
