use Rattle.std.proofs.lemmas.Bool.{MatchBool-at_true, MatchBool-at_false}
use Rattle.std.proofs.lemmas.Result.{err_from_is_err_and}
use Rattle.inst_lines.specs.Answering.{IsRunnerAt, hub_answerer}
use Rattle.inst_lines.specs.Session.{FailsAfter}
use Rattle.inst_lines.proofs.ProgressOfSession.{err_passed}
use Rattle.inst_lines.proofs.ProgressOfWholeRun.{runs-start, runs-turn, runs-end, runs-fail}
use Rattle.inst_lines.proofs.run.answer_lines.Goals as goal

pub loop-session-init : goal.loop-session-init
loop-session-init g c =
    let made = c.in_ok-session.ensures in
    (made.ready, λ past is. runs-start (hub_answerer c.args.mode) (IsRunnerAt c.args.mode) _ _ _ c.in_ok-session.session _ is made.ready made.input made.is_long made.taken made.lines made.refused)

pub returns-in_err-turn-clause-err : goal.returns-in_err-turn-clause-err
returns-in_err-turn-clause-err g c = λ past of.
    let before = g.W.Write.contents c.args.writer.now in
    let now' = g.W.Write.contents c.turn.new.writer in
    let left = g.R.Read.remaining c.args.reader.now in
    let left' = g.R.Read.remaining c.turn.new.reader in
    err_passed (FailsAfter (hub_answerer c.args.mode) past before now' left left') c.from_residual-in_err-turn.result _
    (err_from_is_err_and c.from_residual-in_err-turn.result c.from_residual-in_err-turn.ensures.1)
    (runs-fail (hub_answerer c.args.mode) (IsRunnerAt c.args.mode) _ _ _ _ _ _ _ _ _ _ (c.loop-session.invariant.1 past of) c.in_err-turn.ensures.err)

pub loop-session-preserved : goal.loop-session-preserved
loop-session-preserved g c =
    let turned = MatchBool-at_true _ _ c.if-branch.true c.in_ok-turn.ensures.ok in
    (turned.is_ready, λ past of. runs-turn (hub_answerer c.args.mode) (IsRunnerAt c.args.mode) _ _ _ _ _ _ _ _ _ _ _ (c.loop-session.invariant.1 past of) turned)

pub returns-clause-end : goal.returns-clause-end
returns-clause-end g c = (MatchBool-at_false _ _ c.if-branch.false c.in_ok-turn.ensures.ok).at_end

pub returns-clause-lines : goal.returns-clause-lines
returns-clause-lines g c = λ past of.
    (runs-end (hub_answerer c.args.mode) (IsRunnerAt c.args.mode) _ _ _ _ _ _ _ _ _ _ _ (c.loop-session.invariant.1 past of) (MatchBool-at_false _ _ c.if-branch.false c.in_ok-turn.ensures.ok)).lines_are

pub returns-clause-refused : goal.returns-clause-refused
returns-clause-refused g c = λ past of.
    (runs-end (hub_answerer c.args.mode) (IsRunnerAt c.args.mode) _ _ _ _ _ _ _ _ _ _ _ (c.loop-session.invariant.1 past of) (MatchBool-at_false _ _ c.if-branch.false c.in_ok-turn.ensures.ok)).refused_are

pub returns-clause-runner : goal.returns-clause-runner
returns-clause-runner g c = λ past of.
    (runs-end (hub_answerer c.args.mode) (IsRunnerAt c.args.mode) _ _ _ _ _ _ _ _ _ _ _ (c.loop-session.invariant.1 past of) (MatchBool-at_false _ _ c.if-branch.false c.in_ok-turn.ensures.ok)).state_is

pub returns-clause-limits : goal.returns-clause-limits
returns-clause-limits g c = λ past of.
    (runs-end (hub_answerer c.args.mode) (IsRunnerAt c.args.mode) _ _ _ _ _ _ _ _ _ _ _ (c.loop-session.invariant.1 past of) (MatchBool-at_false _ _ c.if-branch.false c.in_ok-turn.ensures.ok)).fits c.turn.new.self.limit

pub returns-clause-output : goal.returns-clause-output
returns-clause-output g c = λ past of.
    (runs-end (hub_answerer c.args.mode) (IsRunnerAt c.args.mode) _ _ _ _ _ _ _ _ _ _ _ (c.loop-session.invariant.1 past of) (MatchBool-at_false _ _ c.if-branch.false c.in_ok-turn.ensures.ok)).output_is
