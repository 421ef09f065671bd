use Rattle.std.proofs.Common.{rules}
use Rattle.inst_desk.proofs.desk.Desk.finish.Goals as goal

pub returns-clause-jobs : goal.returns-clause-jobs
returns-clause-jobs g c = search rules
