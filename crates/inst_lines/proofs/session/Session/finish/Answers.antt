use Rattle.std.proofs.Common.{refl}
use Rattle.std.proofs.lemmas.Result.{on_ok_weaker, on_err_weaker}
use Rattle.std.specs.Io.KnownBytes.{Appends}
use Rattle.inst_base.specs.Handing.{WritesPart}
use Rattle.inst_lines.specs.Session.{Finishes}
use Rattle.inst_lines.specs.inner.Session.{Stops}
use Rattle.inst_lines.specs.Answering.{hub_answerer, IsRunnerAt}
use Rattle.inst_base.proofs.Streams.{writes-all}
use Rattle.inst_lines.proofs.ProgressOfSession.{on_err, advances-none, stops-unwritten, finishes-delivered, stops-last}
use Rattle.inst_lines.proofs.session.Session.finish.Goals as goal

pub returns-in_err-answer_last-clause-err : goal.returns-in_err-answer_last-clause-err
returns-in_err-answer_last-clause-err g c = on_err _ (stops-unwritten (hub_answerer c.args.mode) (IsRunnerAt c.args.mode) _ _ _ _ _ _ (advances-none (hub_answerer c.args.mode) (IsRunnerAt c.args.mode) _ _ _))

pub returns-clause-ok : goal.returns-clause-ok
returns-clause-ok g c =
    let now = g.W.Write.contents c.args.writer.now in
    let now' = g.W.Write.contents c.deliver.new.writer in
    let middle = c.answer_last.new.self in
    on_ok_weaker {P = Appends now now' middle.replies.bytes.items} {Q = Finishes (hub_answerer c.args.mode) (IsRunnerAt c.args.mode) c.args.self.now c.args.runner.now now middle.counts c.answer_last.new.runner now'} c.deliver.result
    (λ w. finishes-delivered (hub_answerer c.args.mode) (IsRunnerAt c.args.mode) _ _ _ _ _ _ c.in_ok-answer_last.ensures.ok (writes-all _ _ _ _ w refl)) c.deliver.ensures.ok

pub returns-clause-err : goal.returns-clause-err
returns-clause-err g c =
    let now = g.W.Write.contents c.args.writer.now in
    let now' = g.W.Write.contents c.deliver.new.writer in
    let middle = c.answer_last.new.self in
    on_err_weaker {P = WritesPart now now' middle.replies.bytes.items} {Q = Stops (hub_answerer c.args.mode) (IsRunnerAt c.args.mode) c.args.self.now c.args.runner.now now now'} c.deliver.result
    (λ w. stops-last (hub_answerer c.args.mode) (IsRunnerAt c.args.mode) _ _ _ _ _ _ c.in_ok-answer_last.ensures.ok w) c.deliver.ensures.err
