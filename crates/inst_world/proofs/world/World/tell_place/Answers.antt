use Rattle.std.proofs.Common.{◌∷◌, ◌≡◌, ◌∙◌, sym, refl}
use Rattle.inst_command.specs.declared.step.Step.TheVariants.{Learn}
use Rattle.inst_model.specs.Hub.{history}
use Rattle.inst_model.specs.Transfer.{at_place}
use Rattle.inst_world.proofs.BeneficiariesStay.{is_no_side}
use Rattle.inst_world.proofs.RunsThatOnlyTell.{told_more, told_none, told_one}
use Rattle.inst_world.proofs.StepsThatAddNothing.{no_side_runs}
use Rattle.inst_world.proofs.world.World.tell_place.Goals as goal

pub returns-then-who-to-clause-ran : goal.returns-then-who-to-clause-ran
returns-then-who-to-clause-ran c = λ O L run.
    let p = c.args.place.owner in
    no_side_runs c.args.self.now O L run c.args.who p c.args.place.index c.requires.who c.requires.from
    (is_no_side c.args.who p c.args.to (at_place p (history c.args.self.now.board.settings O L p) c.args.place.index) c.if-who-from.true (λ same. c.if-who-to.true (sym same)) (c.requires.to O L run))

pub returns-in_err-step-2-clause-told : goal.returns-in_err-step-2-clause-told
returns-in_err-step-2-clause-told c = told_more _ _ _ (told_one _ _ _ _ refl c.in_ok-step.ensures.ok) (told_none _ _ c.in_err-step-2.ensures.err.has_run)

pub returns-clause-ran : goal.returns-clause-ran
returns-clause-ran c = λ O L run.
    let learnt = c.in_ok-step.ensures.ok O L run in
    (c.in_ok-step-2.ensures.ok O (Learn c.args.who c.args.place.owner c.args.place.index ∷ L) learnt.1).1

pub returns-clause-told : goal.returns-clause-told
returns-clause-told c = told_more _ _ _ (told_one _ _ _ _ refl c.in_ok-step.ensures.ok) (told_one _ _ _ _ refl c.in_ok-step-2.ensures.ok)
