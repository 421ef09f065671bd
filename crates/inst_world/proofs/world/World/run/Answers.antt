use Rattle.std.proofs.Common.{◌∙◌, ap, subst, reverse}
use Rattle.inst_settings.specs.Settings.{HubSettings}
use Rattle.inst_model.specs.Opening.Opening.{First}
use Rattle.inst_model.specs.Trace.{trace}
use Rattle.inst_world.specs.HasRun.{IsWorld, journal_of}
use Rattle.inst_world.specs.Headline.{run_of}
use Rattle.inst_world.proofs.PromisesFollowFromLaws.{is_run, keeps_the_headline}
use Rattle.inst_world.proofs.world.World.run.Goals as goal

pub returns-clause-ran : goal.returns-clause-ran
returns-clause-ran c =
    let opened = c.in_ok-world.ensures.ok in
    (c.run_steps.ensures.settings ∙ opened.0, (c.in_ok-trace.ensures.ok First opened.1).0)

pub returns-clause-headline : goal.returns-clause-headline
returns-clause-headline c =
    let opened = c.in_ok-world.ensures.ok in
    let ran = c.in_ok-trace.ensures.ok First opened.1 in
    let whole : IsWorld c.run_steps.new.self = subst IsWorld c.world.view_is c.world.invariant.0 in
    keeps_the_headline c.args.settings.now (run_of First c.args.steps.now (journal_of c.run_steps.new.self) c.in_ok-trace.trace.answers)
    (is_run c.args.settings.now First c.args.steps.now c.run_steps.new.self c.in_ok-trace.trace.answers (c.run_steps.ensures.settings ∙ opened.0) whole
    ran.0 (ran.1 ∙ ap (λ (s : HubSettings). trace s First (reverse c.args.steps.now)) opened.0))
