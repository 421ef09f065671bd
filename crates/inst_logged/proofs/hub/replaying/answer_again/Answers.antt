use Rattle.std.proofs.Common.{inr, [], ℕ, Option, Some, drop, sym, ◌∙◌, ap, subst, arith}
use Rattle.std.proofs.lemmas.List.{take_rest}
use Rattle.std.proofs.lemmas.Result.{err_from_is_err_and}
use Rattle.std.specs.Io.KnownBytes.{Appends}
use Rattle.inst_base.specs.Handing.{WritesPart}
use Rattle.inst_log.specs.Layout.{recovered_lines}
use Rattle.std.specs.Prelude.{⊤}
use Rattle.inst_log.specs.declared.error.LogError.{LogError}
use Rattle.inst_logged.specs.declared.error.LoggedError.TheVariants.{Log}
use Rattle.inst_logged.specs.inner.Failing.{FailsAtLog}
use Rattle.inst_logged.specs.inner.Answering.{AnswersLines, AnswersAgain, debt}
use Rattle.inst_logged.proofs.Debt.{again_few, again_rest, rest_out}
use Rattle.inst_logged.proofs.EnoughLinesForToldReplies.{AreEnough, enough_first, on_err_all}
use Rattle.inst_logged.proofs.CausesOfRefusalByCall.{passed}
use Rattle.inst_logged.proofs.hub.replaying.answer_again.Goals as goal

-- all of these lines have been told
pub returns-then-left-gt0-clause-ok : goal.returns-then-left-gt0-clause-ok
returns-then-left-gt0-clause-ok g c =
    let a = c.args.answers.now in
    subst (λ (o : Option ℕ). AnswersAgain a.mode o (Some c.in_ok-start.left) a.runner c.answer_first.new.self.runner (recovered_lines c.args.lines.now) (g.W.Write.contents c.args.writer.now) (g.W.Write.contents c.args.writer.now)) (sym c.in-Some.is)
    (again_few a.mode a.runner c.answer_first.new.self.runner _ _ c.args.lines.now c.in_ok-start.start c.in-Some.count c.in_ok-start.left (g.W.Write.contents c.args.writer.now) c.in_ok-start.ensures.ok c.if-left-gt0.true)

-- the others are handed out
pub returns-in_err-deliver-clause-part : goal.returns-in_err-deliver-clause-part
returns-in_err-deliver-clause-part g c past keeps =
    let a = c.args.answers.now in
    let answered : AnswersLines c.answer_first.new.self.mode c.answer_first.new.self.runner c.answer_all-2.new.self.runner [] c.answer_all-2.new.out.items (recovered_lines (drop c.in_ok-start.start c.args.lines.now)) =
    rw (take_rest, c.clear-2.ensures.items) at c.in_ok-answer_all-2.ensures.ok in
    let out = rest_out a.mode past a.runner c.answer_first.new.self.runner c.answer_all-2.new.self.runner _ _ _ c.args.lines.now c.in_ok-start.start c.in-Some.count c.in_ok-start.left
    _ c.answer_first.ensures.mode keeps c.in_ok-start.ensures.ok (omega (arith, c.if-left-gt0.false)) answered in
    subst (WritesPart (g.W.Write.contents c.args.writer.now) (g.W.Write.contents c.deliver.new.writer))
    (c.deref.ensures.value ∙ out ∙ ap (λ (o : Option ℕ). debt a.mode past o (recovered_lines c.args.lines.now)) (sym c.in-Some.is)) c.deliver.ensures.part

pub returns-clause-ok : goal.returns-clause-ok
returns-clause-ok g c =
    let a = c.args.answers.now in
    let answered : AnswersLines c.answer_first.new.self.mode c.answer_first.new.self.runner c.answer_all-2.new.self.runner [] c.answer_all-2.new.out.items (recovered_lines (drop c.in_ok-start.start c.args.lines.now)) =
    rw (take_rest, c.clear-2.ensures.items) at c.in_ok-answer_all-2.ensures.ok in
    let wrote : Appends (g.W.Write.contents c.args.writer.now) (g.W.Write.contents c.deliver.new.writer) c.answer_all-2.new.out.items =
    subst (Appends (g.W.Write.contents c.args.writer.now) (g.W.Write.contents c.deliver.new.writer)) c.deref.ensures.value c.in_ok-deliver.ensures.ok in
    subst (λ (o : Option ℕ). AnswersAgain a.mode o (Some 0) a.runner c.answer_all-2.new.self.runner (recovered_lines c.args.lines.now) (g.W.Write.contents c.args.writer.now) (g.W.Write.contents c.deliver.new.writer)) (sym c.in-Some.is)
    (again_rest a.mode a.runner c.answer_first.new.self.runner c.answer_all-2.new.self.runner _ _ _ c.args.lines.now c.in_ok-start.start c.in-Some.count c.in_ok-start.left
    _ _ _ c.answer_first.ensures.mode c.in_ok-start.ensures.ok (omega (arith, c.if-left-gt0.false)) answered wrote)

pub returns-clause-part : goal.returns-clause-part
returns-clause-part g c past keeps =
    let a = c.args.answers.now in
    let answered : AnswersLines c.answer_first.new.self.mode c.answer_first.new.self.runner c.answer_all-2.new.self.runner [] c.answer_all-2.new.out.items (recovered_lines (drop c.in_ok-start.start c.args.lines.now)) =
    rw (take_rest, c.clear-2.ensures.items) at c.in_ok-answer_all-2.ensures.ok in
    let out = rest_out a.mode past a.runner c.answer_first.new.self.runner c.answer_all-2.new.self.runner _ _ _ c.args.lines.now c.in_ok-start.start c.in-Some.count c.in_ok-start.left
    _ c.answer_first.ensures.mode keeps c.in_ok-start.ensures.ok (omega (arith, c.if-left-gt0.false)) answered in
    subst (WritesPart (g.W.Write.contents c.args.writer.now) (g.W.Write.contents c.deliver.new.writer))
    (c.deref.ensures.value ∙ out ∙ ap (λ (o : Option ℕ). debt a.mode past o (recovered_lines c.args.lines.now)) (sym c.in-Some.is)) c.deliver.ensures.part

pub returns-in_err-deliver-clause-begun : goal.returns-in_err-deliver-clause-begun
returns-in_err-deliver-clause-begun g c =
    on_err_all c.from_residual-in_err-deliver.result _ (inr (subst (λ (o : Option ℕ). AreEnough o (recovered_lines c.args.lines.now)) (sym c.in-Some.is)
    (enough_first _ _ _ _ _ c.args.lines.now c.in_ok-start.start c.in-Some.count c.in_ok-start.left c.in_ok-start.ensures.ok (omega (arith, c.if-left-gt0.false)))))

pub returns-in_err-answer_all-clause-failure : goal.returns-in_err-answer_all-clause-failure
returns-in_err-answer_all-clause-failure g c = passed _ c.from_residual.result _ (err_from_is_err_and c.from_residual.result c.from_residual.ensures.1) ((λ is. cc is), tt)

pub returns-in_err-start-clause-failure : goal.returns-in_err-start-clause-failure
returns-in_err-start-clause-failure g c = passed _ c.from_residual-in_err-start.result _ (err_from_is_err_and c.from_residual-in_err-start.result c.from_residual-in_err-start.ensures.1) ((λ is. cc is), tt)

pub returns-in_err-answer_all-2-clause-failure : goal.returns-in_err-answer_all-2-clause-failure
returns-in_err-answer_all-2-clause-failure g c = passed _ c.from_residual-in_err-answer_all-2.result _ (err_from_is_err_and c.from_residual-in_err-answer_all-2.result c.from_residual-in_err-answer_all-2.ensures.1) ((λ is. cc is), tt)

pub returns-in_err-deliver-clause-failure : goal.returns-in_err-deliver-clause-failure
returns-in_err-deliver-clause-failure g c =
    passed _ c.from_residual-in_err-deliver.result _ (err_from_is_err_and c.from_residual-in_err-deliver.result c.from_residual-in_err-deliver.ensures.1)
    (subst (λ (e : LogError). FailsAtLog ⊥ ⊥ ⊤ (Log e)) (sym c.in_err-deliver.ensures.only) ((λ is. cc is), tt))
