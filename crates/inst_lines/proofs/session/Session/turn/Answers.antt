use Rattle.std.proofs.Common.{◌≡◌, refl, sym, subst, ◌∙◌, arith}
use Rattle.std.proofs.lemmas.Grind.{common_steps}
use Rattle.std.proofs.lemmas.Result.{err_from_is_err_and}
use Rattle.inst_base.specs.declared.fault.Fault.TheVariants.{ReadFault, WriteFault}
use Rattle.inst_lines.specs.Answering.{hub_answerer, IsRunnerAt}
use Rattle.inst_lines.specs.Session.{FailsRun}
use Rattle.inst_lines.specs.inner.Session.{IsNoReadFault}
use Rattle.inst_base.proofs.Streams.{writes-all}
use Rattle.inst_lines.proofs.ProgressOfSession.{err_passed, answered-read, turn-fill_fails, turn-stops, stops-after, turn-ends, turn-full, turn-goes_on}
use Rattle.inst_lines.proofs.session.Session.turn.Goals as goal
use Rattle.inst_lines.proofs.session.Session.turn.Goals.{else-self-eq-MOST_LINES-via-then-self-eq-MOST_LINES+else-is_in_line, else-self-eq-MOST_LINES-via-else-self-eq-MOST_LINES}

pub returns-in_err-fill-clause-err : goal.returns-in_err-fill-clause-err
returns-in_err-fill-clause-err g c =
    let now = g.W.Write.contents c.args.writer.now in
    let left = g.R.Read.remaining c.args.reader.now in
    let left' = g.R.Read.remaining c.fill.new.reader in
    let is : c.in_err-fill.field-0.0 ≡ ReadFault = cc (c.in_err-fill.ensures.fault) in
    err_passed (FailsRun (hub_answerer c.args.mode) (IsRunnerAt c.args.mode) c.args.self.now c.args.runner.now now now left left') c.from_residual.result _
    (err_from_is_err_and c.from_residual.result c.from_residual.ensures.1)
    (subst (FailsRun (hub_answerer c.args.mode) (IsRunnerAt c.args.mode) c.args.self.now c.args.runner.now now now left left') (sym is)
    (turn-fill_fails (hub_answerer c.args.mode) (IsRunnerAt c.args.mode) c.args.self.now c.args.runner.now now left left' c.requires c.in_err-fill.ensures.err))

pub finish-requires : goal.finish-requires
finish-requires g c = answered-read (hub_answerer c.args.mode) (IsRunnerAt c.args.mode) _ _ _ _ _ c.requires.answered refl c.in_ok-fill.ensures.ok c.if-branch-eq0.true

pub returns-in_err-finish-clause-err : goal.returns-in_err-finish-clause-err
returns-in_err-finish-clause-err g c =
    let now = g.W.Write.contents c.args.writer.now in
    let now' = g.W.Write.contents c.finish.new.writer in
    let left = g.R.Read.remaining c.args.reader.now in
    let left' = g.R.Read.remaining c.fill.new.reader in
    err_passed (FailsRun (hub_answerer c.args.mode) (IsRunnerAt c.args.mode) c.args.self.now c.args.runner.now now now' left left') c.from_residual-in_err-finish.result _
    (err_from_is_err_and c.from_residual-in_err-finish.result c.from_residual-in_err-finish.ensures.1)
    (turn-stops (hub_answerer c.args.mode) (IsRunnerAt c.args.mode) _ _ _ now now' left left' _ _ refl refl c.in_ok-fill.ensures.ok c.in_err-finish.ensures.err c.in_err-finish.ensures.fault)

pub returns-then-branch-eq0-clause-ok : goal.returns-then-branch-eq0-clause-ok
returns-then-branch-eq0-clause-ok g c =
    turn-ends (hub_answerer c.args.mode) (IsRunnerAt c.args.mode) _ _ _ _ _ _ _ _ _ _ refl refl c.in_ok-fill.ensures.ok c.if-branch-eq0.true c.in_ok-finish.ensures.ok

pub returns-in_err-answer_held-clause-err : goal.returns-in_err-answer_held-clause-err
returns-in_err-answer_held-clause-err g c =
    let now = g.W.Write.contents c.args.writer.now in
    let now' = g.W.Write.contents c.answer_held.new.writer in
    let left = g.R.Read.remaining c.args.reader.now in
    let left' = g.R.Read.remaining c.fill.new.reader in
    err_passed (FailsRun (hub_answerer c.args.mode) (IsRunnerAt c.args.mode) c.args.self.now c.args.runner.now now now' left left') c.from_residual-in_err-answer_held.result _
    (err_from_is_err_and c.from_residual-in_err-answer_held.result c.from_residual-in_err-answer_held.ensures.1)
    (turn-stops (hub_answerer c.args.mode) (IsRunnerAt c.args.mode) _ _ _ now now' left left' _ _ refl refl c.in_ok-fill.ensures.ok c.in_err-answer_held.ensures.err c.in_err-answer_held.ensures.fault)

pub returns-in_err-deliver-clause-err : goal.returns-in_err-deliver-clause-err
returns-in_err-deliver-clause-err g c =
    let now = g.W.Write.contents c.args.writer.now in
    let now' = g.W.Write.contents c.deliver.new.writer in
    let left = g.R.Read.remaining c.args.reader.now in
    let left' = g.R.Read.remaining c.fill.new.reader in
    let is : c.in_err-deliver.field-0.0 ≡ WriteFault = cc (c.in_err-deliver.ensures.fault) in
    err_passed (FailsRun (hub_answerer c.args.mode) (IsRunnerAt c.args.mode) c.args.self.now c.args.runner.now now now' left left') c.from_residual-in_err-deliver.result _
    (err_from_is_err_and c.from_residual-in_err-deliver.result c.from_residual-in_err-deliver.ensures.1)
    (turn-stops (hub_answerer c.args.mode) (IsRunnerAt c.args.mode) _ _ _ now now' left left' _ _ refl refl c.in_ok-fill.ensures.ok
    (stops-after (hub_answerer c.args.mode) (IsRunnerAt c.args.mode) _ _ _ _ _ _ _ c.in_ok-answer_held.ensures.ok c.in_err-deliver.ensures.err) (subst IsNoReadFault (sym is) tt))

pub returns-then-is_in_line-clause-err : goal.returns-then-is_in_line-clause-err
returns-then-is_in_line-clause-err g c =
    turn-full (hub_answerer c.args.mode) (IsRunnerAt c.args.mode) _ _ _ (let m = c.answer_held.new.self in record { reader = m.reader; input = m.input; replies = c.deliver.new.self; counts = m.counts; limit = m.limit; fewer = m.fewer }) _ _ _ _ _ _ _ _ refl refl c.in_ok-fill.ensures.ok c.in_ok-answer_held.ensures.ok refl refl
    (writes-all _ _ _ _ c.in_ok-deliver.ensures.ok c.in_ok-deliver.ensures.none) c.in_ok-deliver.ensures.none c.if-self-eq-MOST_LINES.true

pub returns-clause-ok : goal.returns-clause-ok
returns-clause-ok g c =
    turn-goes_on (hub_answerer c.args.mode) (IsRunnerAt c.args.mode) _ _ _ (let m = c.answer_held.new.self in record { reader = m.reader; input = m.input; replies = c.deliver.new.self; counts = m.counts; limit = m.limit; fewer = m.fewer }) _ _ _ _ _ _ _ _ _ refl refl c.in_ok-fill.ensures.ok c.if-branch-eq0.false
    c.in_ok-answer_held.ensures.ok c.in_ok-answer_held.ensures.taken refl refl
    (writes-all _ _ _ _ c.in_ok-deliver.ensures.ok c.in_ok-deliver.ensures.none) c.in_ok-deliver.ensures.none
    refl refl c.make_room.ensures.taken c.make_room.ensures.kept c.make_room.ensures.room
    (λ full. elim c.else-self-eq-MOST_LINES.branch [
      | else-self-eq-MOST_LINES-via-then-self-eq-MOST_LINES+else-is_in_line w ↦ sym w.is_in_line.ensures ∙ w.if-is_in_line.false
      | else-self-eq-MOST_LINES-via-else-self-eq-MOST_LINES w ↦ absurd (w.if-self-eq-MOST_LINES.false full)
    ])

pub make_room-requires : goal.make_room-requires
make_room-requires g c = grind (arith, common_steps)
