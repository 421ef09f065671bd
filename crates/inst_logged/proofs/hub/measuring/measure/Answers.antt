use Rattle.std.proofs.lemmas.Result.{err_from_is_err_and}
use Rattle.inst_logged.proofs.FailuresOfLoggedHub.{unrefused_fails}
use Rattle.inst_logged.proofs.hub.measuring.measure.Goals as goal

pub returns-in_err-size-clause-failure : goal.returns-in_err-size-clause-failure
returns-in_err-size-clause-failure g c =
    unrefused_fails g.D.Disk c.args.log.now.disk c.len.new.self ⊥ ⊥ c.from_residual.result _ (err_from_is_err_and c.from_residual.result c.from_residual.ensures.1) (λ no. no) (λ clean. ((λ is. cc is), c.in_err-size.ensures.faults.0))
