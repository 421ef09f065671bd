use Rattle.inst_model.specs.Opening.Opening.{First}
use Rattle.inst_world.specs.HasRun.{journal_of}
use Rattle.inst_world.specs.Headline.{run_of}
use Rattle.inst_world.proofs.two_runs.run_both.Goals as goal

pub returns-clause-isolation : goal.returns-clause-isolation
returns-clause-isolation c =
    c.in_ok-first.ensures.headline.isolation (run_of First c.args.other.now (journal_of c.in_ok-second.second.0) c.in_ok-second.second.1.answers) c.in_ok-second.ensures.headline.is_run
    c.args.who c.requires.participant c.requires.same
