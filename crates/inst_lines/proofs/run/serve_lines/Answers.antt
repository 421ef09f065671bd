use Rattle.std.proofs.lemmas.Result.{err_from_is_err_and}
use Rattle.inst_lines.specs.Answering.{hub_answerer, new_past}
use Rattle.inst_lines.specs.Lines.{lines_of}
use Rattle.inst_lines.specs.Session.{FailsAfter}
use Rattle.inst_lines.proofs.AnswerToHeldLine.{keeps_opened}
use Rattle.inst_lines.proofs.RunBehindLines.{opened_keep}
use Rattle.inst_lines.proofs.ProgressOfWholeRun.{counts_of}
use Rattle.inst_lines.proofs.ProgressOfSession.{err_passed}
use Rattle.inst_lines.proofs.run.serve_lines.Goals as goal

pub returns-clause-output : goal.returns-clause-output
returns-clause-output g c =
    c.in_ok-counts.ensures.output (new_past c.args.settings.now) (keeps_opened c.args.settings.now c.in_ok-runner.runner c.in_ok-runner.ensures.settings c.in_ok-runner.ensures.watches c.args.mode)

pub returns-clause-runner : goal.returns-clause-runner
returns-clause-runner g c =
    c.in_ok-counts.ensures.runner (new_past c.args.settings.now) (keeps_opened c.args.settings.now c.in_ok-runner.runner c.in_ok-runner.ensures.settings c.in_ok-runner.ensures.watches c.args.mode)

pub returns-clause-counts : goal.returns-clause-counts
returns-clause-counts g c =
    let past = new_past c.args.settings.now in
    let keeps = keeps_opened c.args.settings.now c.in_ok-runner.runner c.in_ok-runner.ensures.settings c.in_ok-runner.ensures.watches c.args.mode in
    counts_of (hub_answerer c.args.mode) past (g.R.Read.remaining c.args.reader.now) c.in_ok-counts.counts (c.in_ok-counts.ensures.lines past keeps) (c.in_ok-counts.ensures.refused past keeps)

pub returns-clause-end : goal.returns-clause-end
returns-clause-end g c = record {
  at_end = c.in_ok-counts.ensures.end;
  limits =
      c.in_ok-counts.ensures.limits (new_past c.args.settings.now) (keeps_opened c.args.settings.now c.in_ok-runner.runner c.in_ok-runner.ensures.settings c.in_ok-runner.ensures.watches c.args.mode);
}

pub returns-in_err-counts-clause-err : goal.returns-in_err-counts-clause-err
returns-in_err-counts-clause-err g c =
    let s = c.args.settings.now in
    let before = g.W.Write.contents c.args.writer.now in
    let now' = g.W.Write.contents c.answer_lines.new.writer in
    let left = g.R.Read.remaining c.args.reader.now in
    let left' = g.R.Read.remaining c.answer_lines.new.reader in
    err_passed (FailsAfter (hub_answerer c.args.mode) (new_past s) before now' left left') c.from_residual-in_err-counts.result _
    (err_from_is_err_and c.from_residual-in_err-counts.result c.from_residual-in_err-counts.ensures.1)
    (c.in_err-counts.ensures.err (new_past s) (keeps_opened s c.in_ok-runner.runner c.in_ok-runner.ensures.settings c.in_ok-runner.ensures.watches c.args.mode))

pub returns-clause-headline : goal.returns-clause-headline
returns-clause-headline g c = opened_keep c.args.mode c.args.settings.now (g.R.Read.remaining c.args.reader.now) lines_of
