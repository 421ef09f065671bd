use Rattle.std.proofs.Common.{◌≡◌, sym, ◌∙◌, ap, subst}
use Rattle.inst_settings.specs.Lawful.{IsSettings}
use Rattle.inst_command.specs.Ask.{ask_fits}
use Rattle.inst_command.specs.declared.reply.Answer.TheVariants.{Reply}
use Rattle.inst_world.specs.HasRun.{World, world_settings, HasRunSomething}
use Rattle.inst_slot.proofs.ForwardedTransfersHavePlaces.{asks_adopted}
use Rattle.inst_world.proofs.BooksAsOneSlotActs.{leads_to, acted}
use Rattle.inst_world.proofs.HubRunAfterStep.{of_model, unrun}
use Rattle.inst_world.proofs.StepIsRunOrRefused.{still_kept, asker, asked}
use Rattle.inst_world.proofs.world.World.ask.Goals as goal

pub apply-requires-clause-lawful : goal.apply-requires-clause-lawful
apply-requires-clause-lawful c =
    let l = leads_to _ _ _ _ _ c.self.invariant.0 c.self.view_is (asker c.args.self.now.board.settings c.args.ask.now c.requires.fits) c.from.ensures c.index_mut.ensures.value in
    l.member.lawful

pub apply-requires-clause-own : goal.apply-requires-clause-own
apply-requires-clause-own c =
    let l = leads_to _ _ _ _ _ c.self.invariant.0 c.self.view_is (asker c.args.self.now.board.settings c.args.ask.now c.requires.fits) c.from.ensures c.index_mut.ensures.value in
    sym l.member.who_is

pub apply-requires-clause-fits : goal.apply-requires-clause-fits
apply-requires-clause-fits c =
    let l = leads_to _ _ _ _ _ c.self.invariant.0 c.self.view_is (asker c.args.self.now.board.settings c.args.ask.now c.requires.fits) c.from.ensures c.index_mut.ensures.value in
    ap (λ s. ask_fits s c.args.ask.now) l.member.settings_are ∙ ap (λ (w : World). ask_fits w.board.settings c.args.ask.now) c.self.view_is ∙ c.requires.fits

pub apply-requires-clause-adopted : goal.apply-requires-clause-adopted
apply-requires-clause-adopted c =
    let l = leads_to _ _ _ _ _ c.self.invariant.0 c.self.view_is (asker c.args.self.now.board.settings c.args.ask.now c.requires.fits) c.from.ensures c.index_mut.ensures.value in
    asks_adopted (λ b. b.settings) _ (λ b q. Unit {0}) c.self.inside.board c.index_mut.result.now c.args.ask.now.command l.member.lawful l.member.adopted

pub invariant_of-self : goal.invariant_of-self
invariant_of-self c =
    let l = leads_to _ _ _ _ _ c.self.invariant.0 c.self.view_is (asker c.args.self.now.board.settings c.args.ask.now c.requires.fits) c.from.ensures c.index_mut.ensures.value in
    let e = c.apply.ensures in
    still_kept _ _ _ _ _ _ _ c.self.invariant c.self.view_is
    (acted _ _ _ _ _ _ _ c.self.invariant.0 l e.law.holder e.law.lawful e.law.others e.law.same e.law.adopted)
    (asked _ _ _ _ _ _ _ c.self.view_is e.law.holder c.args.ask.now c.apply.result c.refusals_told.result (λ a d. d.settings ≡ a.settings) l c.requires.fits e.applies.decides e.applies.applies c.refusals_told.ensures)

pub returns-clause-ok : goal.returns-clause-ok
returns-clause-ok c =
    let l = leads_to _ _ _ _ _ c.self.invariant.0 c.self.view_is (asker c.args.self.now.board.settings c.args.ask.now c.requires.fits) c.from.ensures c.index_mut.ensures.value in
    let e = c.apply.ensures in
    (asked _ _ _ _ _ _ _ c.self.view_is e.law.holder c.args.ask.now c.apply.result c.refusals_told.result (λ a d. d.settings ≡ a.settings) l c.requires.fits e.applies.decides e.applies.applies c.refusals_told.ensures).ok

pub returns-clause-model : goal.returns-clause-model
returns-clause-model c =
    let l = leads_to _ _ _ _ _ c.self.invariant.0 c.self.view_is (asker c.args.self.now.board.settings c.args.ask.now c.requires.fits) c.from.ensures c.index_mut.ensures.value in
    let e = c.apply.ensures in
    let ran = asked _ _ _ _ _ _ _ c.self.view_is e.law.holder c.args.ask.now c.apply.result c.refusals_told.result (λ a d. d.settings ≡ a.settings) l c.requires.fits e.applies.decides e.applies.applies c.refusals_told.ensures in
    of_model (λ reply. Reply reply) _ _ _ _ (subst HasRunSomething c.self.view_is c.self.invariant.3)
    (subst (λ (w : World). IsSettings (world_settings w)) c.self.view_is c.self.invariant.2) ran.ok

pub returns-clause-err : goal.returns-clause-err
returns-clause-err c =
    let l = leads_to _ _ _ _ _ c.self.invariant.0 c.self.view_is (asker c.args.self.now.board.settings c.args.ask.now c.requires.fits) c.from.ensures c.index_mut.ensures.value in
    let e = c.apply.ensures in
    let ran = asked _ _ _ _ _ _ _ c.self.view_is e.law.holder c.args.ask.now c.apply.result c.refusals_told.result (λ a d. d.settings ≡ a.settings) l c.requires.fits e.applies.decides e.applies.applies c.refusals_told.ensures in
    unrun _ _ _ _ ran.err ran.memory

pub returns-clause-settings : goal.returns-clause-settings
returns-clause-settings c =
    let l = leads_to _ _ _ _ _ c.self.invariant.0 c.self.view_is (asker c.args.self.now.board.settings c.args.ask.now c.requires.fits) c.from.ensures c.index_mut.ensures.value in
    let e = c.apply.ensures in
    (asked _ _ _ _ _ _ _ c.self.view_is e.law.holder c.args.ask.now c.apply.result c.refusals_told.result (λ a d. d.settings ≡ a.settings) l c.requires.fits e.applies.decides e.applies.applies c.refusals_told.ensures).settings
