use Rattle.std.proofs.Common.{refl}
use Rattle.inst_logged.proofs.HubOpenedFromJournals.{keeps_again}
use Rattle.inst_logged.proofs.line_answers.LineAnswers.open_from.Goals as goal

pub returns : goal.returns
returns c =
    let w = c.in_ok-world.ensures.ok in
    record {
      opened = record { mode_is = refl; keeps = keeps_again c.args.mode c.args.settings.now c.args.journals.now c.in_ok-world.world c.in_ok-runner.runner w.0 w.1 c.in_ok-runner.ensures.world c.in_ok-runner.ensures.ok };
    }
