use Rattle.std.proofs.Common.{◌≡◌, Bool, IfErr, sym, subst}
use Rattle.inst_program.specs.Keeping.{HasNoSuccessor}
use Rattle.inst_program.specs.inner.Changing.{hub_closed}
use Rattle.inst_program.specs.inner.ExitReason.{status_of_ending}
use Rattle.inst_program.proofs.carrying.succeed.Goals as goal

pub returns-else-positions-clause-unfit : goal.returns-else-positions-clause-unfit
returns-else-positions-clause-unfit g c =
    subst (λ (positions : Bool). IfErr c.change.result (λ ending. status_of_ending ending ≡ 2 → HasNoSuccessor positions c.args.changes.now (hub_closed c.args.closed))) (sym c.if-positions.false)
    c.change.ensures.unfit
