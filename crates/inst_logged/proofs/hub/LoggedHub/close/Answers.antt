use Rattle.std.proofs.Common.{◌∙◌}
use Rattle.inst_log.specs.Opening.{lines_after_settings}
use Rattle.inst_logged.specs.Answering.{past_after}
use Rattle.inst_logged.proofs.HubOpenedFromJournals.{are_carried, has_run}
use Rattle.inst_logged.proofs.hub.LoggedHub.close.Goals as goal

pub returns-clause-ok : goal.returns-clause-ok
returns-clause-ok g c clean =
    let self = c.args.self.now in
    let mode = self.recorder.answers.mode in
    let lines = lines_after_settings self.header.items (g.D.Disk.seen self.recorder.log.disk) in
    let runner = c.open.new.self.recorder.answers.runner in
    let opens = c.in_ok-open.ensures.ok clean in
    record {
      taken = opens.taken;
      lines = opens.lines;
      are = λ past keeps. are_carried mode (past_after mode past lines) runner c.in_ok-close_books.field-0.items (opens.state past keeps) c.in_ok-close_books.ensures.books;
      settings = λ past keeps. c.close_books.ensures.settings ∙ (has_run mode (past_after mode past lines) runner (opens.state past keeps)).0;
    }
