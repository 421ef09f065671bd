use Rattle.std.proofs.lemmas.Result.{err_from_is_err_and}
use Rattle.inst_logged.proofs.FailuresOfLoggedHub.{unrefused_fails, log_unrefused, fails_after, on_ok_calm, log_fails}
use Rattle.inst_logged.proofs.DiskThatWasOnlyRead.{lines_after_read, spares_after_read}
use Rattle.inst_logged.proofs.hub.measuring.open_measured.Goals as goal

pub returns-clause-log : goal.returns-clause-log
returns-clause-log g c =
    on_ok_calm g.D.Disk c.open_at.new.self.disk c.measure.new.log.disk ⊥ ⊥ c.measure.result _ c.measure.ensures.failure.failure
    (λ calm. lines_after_read g.D.Disk _ _ c.args.log.now c.open_at.new.self c.measure.new.log c.measure.ensures.read.0 c.measure.ensures.read.1 calm c.in_ok-open_at.ensures.log)

pub returns-clause-any_moment : goal.returns-clause-any_moment
returns-clause-any_moment g c = spares_after_read g.D.Disk c.args.header.now c.args.log.now.disk c.open_at.new.self.disk c.measure.new.log.disk c.measure.ensures.read.0 c.open_at.ensures.any_moment

pub returns-in_err-open_at-clause-failure : goal.returns-in_err-open_at-clause-failure
returns-in_err-open_at-clause-failure g c =
    unrefused_fails g.D.Disk c.args.log.now.disk c.open_at.new.self.disk ⊥ ⊥ c.from_residual.result _ (err_from_is_err_and c.from_residual.result c.from_residual.ensures.1) (log_unrefused _ _ _ c.in_err-open_at.field-0.0 c.in_err-open_at.ensures.cause)
    (λ clean. log_fails _ _ _ ⊥ ⊥ c.in_err-open_at.field-0.0 (λ failed. failed) c.in_err-open_at.ensures.cause)

pub returns-clause-failure : goal.returns-clause-failure
returns-clause-failure g c = record {
  unrefused = c.measure.ensures.failure.unrefused;
  failure = fails_after g.D.Disk c.args.log.now.disk c.open_at.new.self.disk c.measure.new.log.disk ⊥ ⊥ c.measure.result c.in_ok-open_at.ensures.log.calm c.measure.ensures.failure.failure;
}
