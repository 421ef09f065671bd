use Rattle.std.proofs.Common.{[], refl}
use Rattle.std.proofs.lemmas.Result.{err_from_is_err_and}
use Rattle.inst_logged.specs.declared.version.Version.TheVariants.{Two}
use Rattle.inst_logged.proofs.CausesOfRefusalByCall.{chain_cause, no_ok, passed}
use Rattle.inst_logged.proofs.FailuresOfLoggedHub.{fails_passed, chain_fails}
use Rattle.inst_logged.proofs.hub.examining.examine_marked.Goals as goal

pub returns-in_err-verified : goal.returns-in_err-verified
returns-in_err-verified g c =
    let file = g.D.Disk.seen c.args.disk.now in
    let failed = err_from_is_err_and c.from_residual.result c.from_residual.ensures.1 in
    record {
      found = no_ok _ c.from_residual.result _ failed;
      cause = passed _ c.from_residual.result _ failed
          (λ clean header told. chain_cause Two header told c.args.wanted file refl _ _ c.in_err-verified.field-0.0 clean c.in_err-verified.ensures.cause);
      failure = fails_passed _ _ c.from_residual.result _ failed
          (λ clean. chain_fails file _ _ ⊥ ⊥ c.in_err-verified.field-0.0 clean c.in_err-verified.ensures.cause);
      read = c.verify_known.ensures.read;
    }

pub verify_known-requires-clause-sealed : goal.verify_known-requires-clause-sealed
verify_known-requires-clause-sealed g c = c.requires.begins.sealed c.args.header.now refl (record { rest = []; split = c.requires.batch.whole })
