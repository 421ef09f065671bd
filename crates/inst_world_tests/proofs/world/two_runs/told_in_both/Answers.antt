-- The rows are computed once, and carried over to the arguments that are the rows.
use Rattle.std.proofs.Common.{◌≡◌, List, refl, sym, subst}
use Rattle.inst_settings.specs.Settings.{HubSettings}
use Rattle.inst_command.specs.declared.step.Step.{Step}
use Rattle.inst_model.specs.Rows as rows
use Rattle.inst_model.specs.Opening.Opening.{First}
use Rattle.inst_model.specs.Interleaving.{IsInterleaving}
use Rattle.inst_world.specs.Headline.{SeesTheSame}
use Rattle.inst_world_tests.proofs.world.two_runs.told_in_both.Goals as goal

alone_fits : IsInterleaving rows.settings rows.alone
alone_fits = (refl, (refl, (refl, (refl, (refl, (refl, (refl, tt)))))))

others_fit : IsInterleaving rows.settings rows.among_others
others_fit = (refl, (refl, (refl, (refl, (refl, (refl, (refl, (refl, (refl, (refl, (refl, (refl, (refl, tt)))))))))))))

same_seen : SeesTheSame rows.settings 1 First First rows.alone rows.among_others
same_seen = record { same_beginning = refl; same_view = refl }

pub run_both-requires-clause-one : goal.run_both-requires-clause-one
run_both-requires-clause-one c =
    subst (λ (s : HubSettings). IsInterleaving s c.args.alone.now) (sym c.requires.settings)
    (subst (λ (l : List Step). IsInterleaving rows.settings l) (sym c.requires.alone) alone_fits)

pub run_both-requires-clause-other : goal.run_both-requires-clause-other
run_both-requires-clause-other c =
    subst (λ (s : HubSettings). IsInterleaving s c.args.among_others.now) (sym c.requires.settings)
    (subst (λ (l : List Step). IsInterleaving rows.settings l) (sym c.requires.among_others) others_fit)

pub run_both-requires-clause-same : goal.run_both-requires-clause-same
run_both-requires-clause-same c =
    subst (λ (s : HubSettings). SeesTheSame s 1 First First c.args.alone.now c.args.among_others.now) (sym c.requires.settings)
    (subst (λ (l : List Step). SeesTheSame rows.settings 1 First First l c.args.among_others.now) (sym c.requires.alone)
    (subst (λ (l : List Step). SeesTheSame rows.settings 1 First First rows.alone l) (sym c.requires.among_others) same_seen))
