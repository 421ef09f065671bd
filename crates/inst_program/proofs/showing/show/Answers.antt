use Rattle.std.proofs.Common.{◌≡◌, refl, subst}
use Rattle.std.proofs.lemmas.Result.{err_from_is_err_and, on_ok_weaker, IfErr-weaker}
use Rattle.inst_program.specs.inner.ExitReason.{status_of_ending}
use Rattle.inst_program.specs.declared.exit_reason.ExitReason.{ExitReason}
use Rattle.inst_program.proofs.PassedOnOutcome.{err_all_at}
use Rattle.inst_program.proofs.showing.show.Goals as goal

pub returns-in_err-contents-clause-err : goal.returns-in_err-contents-clause-err
returns-in_err-contents-clause-err g c =
    err_all_at c.from_residual.result _ (err_from_is_err_and c.from_residual.result c.from_residual.ensures.1)
    (λ e is two. (refl, c.in_err-contents.ensures.err (subst (λ (f : ExitReason). status_of_ending f ≡ 2) is two)))

pub returns-clause-ok : goal.returns-clause-ok
returns-clause-ok g c = on_ok_weaker c.tell.result (λ told clean.
    let contents = c.in_ok-contents.contents in
    record {
      first = contents.first.items;
      lines = contents.lines;
      digest = contents.digest;
      has = c.in_ok-contents.ensures.ok clean;
      told = told;
    }) c.tell.ensures.ok

pub returns-clause-err : goal.returns-clause-err
returns-clause-err g c = IfErr-weaker c.tell.result _ _ (λ e never two. absurd (never two)) c.tell.ensures.err
