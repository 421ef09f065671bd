use Rattle.std.proofs.Common.{None, refl, subst, sym}
use Rattle.std.proofs.lemmas.Result.{IfOk-weaker}
use Rattle.inst_program.proofs.AuditedLogs.{closed_as}
use Rattle.inst_program.proofs.auditing.close_log.Goals as goal

pub returns-in-None-clause-closed : goal.returns-in-None-clause-closed
returns-in-None-clause-closed g c =
    IfOk-weaker c.close_on.result.0 _ _ (λ closed is. closed_as _ _ _ (is refl None refl)) c.close_on.ensures.ok

pub returns-in-None-clause-books : goal.returns-in-None-clause-books
returns-in-None-clause-books g c = c.close_on.ensures.books
