use Rattle.std.proofs.Common.{sym, ◌∙◌}
use Rattle.std.proofs.lemmas.Result.{err_from_is_err_and}
use Rattle.inst_logged.specs.declared.version.Version.TheVariants.{One}
use Rattle.inst_logged.proofs.CausesOfRefusalByCall.{log_cause, no_ok, none_wanted, passed}
use Rattle.inst_logged.proofs.FailuresOfLoggedHub.{fails_passed, log_fails}
use Rattle.inst_logged.proofs.hub.examining.examine_unmarked.Goals as goal

pub returns-in_err-extent : goal.returns-in_err-extent
returns-in_err-extent g c =
    let file = g.D.Disk.seen c.args.disk.now in
    let failed = err_from_is_err_and c.from_residual.result c.from_residual.ensures.1 in
    record {
      found = no_ok _ c.from_residual.result _ failed;
      cause = passed _ c.from_residual.result _ failed
          (λ clean header told. log_cause One header told c.args.wanted file _ _ _ c.in_err-extent.field-0.0 c.in_err-extent.ensures.cause);
      failure = fails_passed _ _ c.from_residual.result _ failed
          (λ clean. log_fails _ _ _ ⊥ ⊥ c.in_err-extent.field-0.0 (λ failed. failed clean) c.in_err-extent.ensures.cause);
      read = c.survey.ensures.read;
    }

pub returns : goal.returns
returns g c = record {
  found = λ clean. record {
    extent = c.in_ok-extent.ensures.extent clean;
    verified = tt;
    digest = none_wanted c.args.wanted (sym c.is_some.ensures ∙ c.if-is_some.false);
  };
  cause = tt;
  failure = c.in_ok-extent.ensures.cause;
  read = c.survey.ensures.read;
}
