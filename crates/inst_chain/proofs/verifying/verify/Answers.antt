use Rattle.std.proofs.Common.{[], List, ℕ, refl, sym, subst}
use Rattle.std.proofs.lemmas.Result.{err_from_is_err_and}
use Rattle.inst_log.specs.Pieces.{IsReading}
use Rattle.inst_chain.proofs.PlaceOfDamage.{log_failed, wanted_none}
use Rattle.inst_chain.proofs.verifying.verify.Goals as goal

pub verify_rest-requires-clause-started : goal.verify_rest-requires-clause-started
verify_rest-requires-clause-started g c = λ clean. record {
  done = [];
  reading = subst (λ (f : List ℕ). IsReading f c.in_ok-lines.lines []) (sym c.new.ensures.read.left.same) (c.in_ok-lines.ensures.reading clean [] (g.D.Disk.seen c.args.disk.now) refl refl refl);
  stands = c.new-2.ensures;
  is_wanted = wanted_none c.args.wanted c.is_none.result c.is_none.ensures;
}

pub returns-in_err-lines-clause-cause : goal.returns-in_err-lines-clause-cause
returns-in_err-lines-clause-cause g c =
    log_failed (g.D.Disk.seen c.args.disk.now) _ _ _ _ _ c.from_residual.result _ (err_from_is_err_and c.from_residual.result c.from_residual.ensures.1) (λ failed clean. failed) c.in_err-lines.ensures.cause
