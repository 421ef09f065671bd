use Rattle.std.proofs.Common.{rules, ◌++◌, [], List, ℕ, refl, sym, ◌∙◌, ap, subst, append-nil}
use Rattle.std.proofs.lemmas.Result.{err_from_is_err_and, on_ok_weaker, IfErr-weaker}
use Rattle.inst_base.specs.Handing.{WritesPart}
use Rattle.inst_log.specs.Layout.{recovered_lines}
use Rattle.inst_log.specs.Pieces.{IsReading}
use Rattle.inst_chain.specs.Chain.{said}
use Rattle.inst_logged.specs.inner.Answering.{AnswersAgain, debt}
use Rattle.inst_logged.specs.inner.Replaying.{IsReplayed}
use Rattle.inst_logged.proofs.DiskThatWasOnlyRead.{read_twice}
use Rattle.inst_logged.proofs.Debt.{again_none, again_more, replayed, part_so_far, part_more, too_few, kept_so_far, kept_at_end, reading_none, reading_more, still_told, not_zero}
use Rattle.inst_logged.proofs.EnoughLinesForToldReplies.{begun_so_far, begun_more, on_err_all}
use Rattle.inst_logged.proofs.FailuresOfLoggedHub.{fails_passed, fails_so, fails_told, log_fails, more_faults}
use Rattle.inst_logged.proofs.hub.replaying.replay.Goals as goal

pub loop-lines-init : goal.loop-lines-init
loop-lines-init g c =
    let file = g.D.Disk.seen c.args.recorder.now.log.disk in
    record {
      done = [];
      again = again_none c.args.recorder.now.answers.mode c.args.told c.args.recorder.now.answers.runner _;
      untouched = λ _. refl;
      reading = λ clean.
          reading_none c.args.header.now file c.in_ok-lines.lines c.requires.header (c.requires.begins (c.new.ensures.read.clean clean)) (c.in_ok-lines.ensures.reading clean);
      mode = refl;
      end = refl;
      read = c.new.ensures.read;
      calm = c.in_ok-lines.ensures.cause;
    }

pub returns-in_err-lines-clause-replays : goal.returns-in_err-lines-clause-replays
returns-in_err-lines-clause-replays g c = record {
  replayed = search rules;
  part = search rules;
  refused = search rules;
  begun = search rules;
  failure =
      fails_passed _ _ c.from_residual.result _ (err_from_is_err_and c.from_residual.result c.from_residual.ensures.1) (λ clean. log_fails _ _ _ _ _ c.in_err-lines.field-0.0 (λ failed. failed) c.in_err-lines.ensures.cause);
}

pub returns-in_err-piece-clause-replays : goal.returns-in_err-piece-clause-replays
returns-in_err-piece-clause-replays g c = record {
  replayed = search rules;
  part = λ clean past keeps.
      let i = c.loop-lines.invariant in
      let file = g.D.Disk.seen c.args.recorder.now.log.disk in
      let kept_now = kept_so_far c.args.header.now file c.loop-lines.lines i.done (i.reading (c.next.ensures.read.clean clean)) in
      part_so_far c.args.recorder.now.answers.mode past c.args.told c.loop-lines.left c.args.recorder.now.answers.runner c.loop-lines.recorder.answers.runner _ i.done _ _ _ (ap said kept_now) keeps i.again;
  refused = search rules;
  begun =
      let i = c.loop-lines.invariant in
      let file = g.D.Disk.seen c.args.recorder.now.log.disk in
      on_err_all c.from_residual-in_err-piece.result _ (λ clean.
      begun_so_far c.args.told c.loop-lines.left _ i.done _ _ i.again.left_is (kept_so_far c.args.header.now file c.loop-lines.lines i.done (i.reading (c.next.ensures.read.clean clean))) i.untouched);
  failure =
      let i = c.loop-lines.invariant in
      let done = recovered_lines c.args.header.now ++ i.done in
      fails_passed _ _ c.from_residual-in_err-piece.result _ (err_from_is_err_and c.from_residual-in_err-piece.result c.from_residual-in_err-piece.ensures.1)
      (λ clean. log_fails _ _ _ _ _ c.in_err-piece.field-0.0
      (λ failed. more_faults _ _ _ i.calm (failed clean done (subst (λ (f : List ℕ). IsReading f c.loop-lines.lines done) (sym i.read.left.same) (i.reading (c.next.ensures.read.clean clean))))) c.in_err-piece.ensures.cause);
}

pub returns-in_err-left-clause-replays : goal.returns-in_err-left-clause-replays
returns-in_err-left-clause-replays g c = record {
  replayed = search rules;
  part = λ clean past keeps.
      let i = c.loop-lines.invariant in
      let file = g.D.Disk.seen c.args.recorder.now.log.disk in
      let piece = recovered_lines c.in_ok-piece.piece.items in
      let reading = reading_more c.args.header.now file (g.D.Disk.seen c.loop-lines.recorder.log.disk) c.loop-lines.lines c.next.new.self i.done piece i.read.left.same (i.reading (c.next.ensures.read.clean clean)) (c.in_ok-piece.ensures.lines.reading clean) in
      let kept_now = kept_so_far c.args.header.now file c.next.new.self (i.done ++ piece) reading in
      part_more c.args.recorder.now.answers.mode past c.args.told c.loop-lines.left c.args.recorder.now.answers.runner c.loop-lines.recorder.answers.runner _ i.done piece _ _ _ _ c.loop-lines.recorder.answers.mode i.mode (ap said kept_now) keeps i.again
      (λ later of. subst (λ (l : List ℕ). WritesPart (g.W.Write.contents c.loop-lines.writer) (g.W.Write.contents c.answer_again.new.writer) (debt c.loop-lines.recorder.answers.mode later c.loop-lines.left (recovered_lines l))) c.deref.ensures.value (c.answer_again.ensures.part later of));
  refused = search rules;
  begun =
      let i = c.loop-lines.invariant in
      let file = g.D.Disk.seen c.args.recorder.now.log.disk in
      let piece = recovered_lines c.in_ok-piece.piece.items in
      on_err_all c.from_residual-in_err-left.result _ (λ clean.
      let reading = reading_more c.args.header.now file (g.D.Disk.seen c.loop-lines.recorder.log.disk) c.loop-lines.lines c.next.new.self i.done piece i.read.left.same (i.reading (c.next.ensures.read.clean clean)) (c.in_ok-piece.ensures.lines.reading clean) in
      begun_more c.args.told c.loop-lines.left _ i.done piece _ _ _ _ i.again.left_is (kept_so_far c.args.header.now file c.next.new.self (i.done ++ piece) reading) i.untouched
      (rw c.deref.ensures.value at c.in_err-left.ensures.begun) (λ before now. now ∙ before));
  failure =
      fails_passed _ _ c.from_residual-in_err-left.result _ (err_from_is_err_and c.from_residual-in_err-left.result c.from_residual-in_err-left.ensures.1)
      (λ clean. fails_so _ _ _ _ _ _ c.in_err-left.field-0.0 (λ no. absurd no) (λ no. no) (λ is. is) c.in_err-left.ensures.failure);
}

pub loop-lines-preserved : goal.loop-lines-preserved
loop-lines-preserved g c =
    let i = c.loop-lines.invariant in
    let file = g.D.Disk.seen c.args.recorder.now.log.disk in
    let piece = recovered_lines c.in_ok-piece.piece.items in
    let again : AnswersAgain c.loop-lines.recorder.answers.mode c.loop-lines.left c.in_ok-left.left c.loop-lines.recorder.answers.runner c.answer_again.new.answers.runner piece (g.W.Write.contents c.loop-lines.writer) (g.W.Write.contents c.answer_again.new.writer) =
    subst (λ (l : List ℕ). AnswersAgain c.loop-lines.recorder.answers.mode c.loop-lines.left c.in_ok-left.left c.loop-lines.recorder.answers.runner c.answer_again.new.answers.runner (recovered_lines l) (g.W.Write.contents c.loop-lines.writer) (g.W.Write.contents c.answer_again.new.writer))
    c.deref.ensures.value c.in_ok-left.ensures.ok in
    record {
      done = i.done ++ piece;
      again = again_more c.args.recorder.now.answers.mode c.args.told c.loop-lines.left c.in_ok-left.left c.args.recorder.now.answers.runner c.loop-lines.recorder.answers.runner c.answer_again.new.answers.runner i.done piece _ _ _
          c.loop-lines.recorder.answers.mode i.mode i.again again;
      untouched = λ more. c.in_ok-left.ensures.untouched more ∙ i.untouched (still_told c.loop-lines.left c.in_ok-left.left piece again.left_is more);
      reading = λ clean.
          reading_more c.args.header.now file (g.D.Disk.seen c.loop-lines.recorder.log.disk) c.loop-lines.lines c.next.new.self i.done piece i.read.left.same (i.reading (c.next.ensures.read.clean clean)) (c.in_ok-piece.ensures.lines.reading clean);
      mode = c.answer_again.ensures.mode ∙ i.mode;
      end = i.end;
      read = read_twice g.D.Disk c.args.recorder.now.log.disk c.loop-lines.recorder.log.disk c.next.new.disk i.read c.next.ensures.read;
      calm = c.in_ok-piece.ensures.cause ∙ i.calm;
    }

pub returns-clause-replays : goal.returns-clause-replays
returns-clause-replays g c = record {
  replayed =
      let i = c.loop-lines.invariant in
      let file = g.D.Disk.seen c.args.recorder.now.log.disk in
      on_ok_weaker c.require_none.result (λ none clean.
      let all = kept_at_end c.args.header.now file c.loop-lines.lines i.done (i.reading clean) (sym c.has_more.ensures ∙ c.loop-lines-test.false) in
      subst (λ (ls : List (List ℕ)). IsReplayed c.args.recorder.now.answers.mode c.args.told c.args.recorder.now.answers.runner c.loop-lines.recorder.answers.runner ls (g.W.Write.contents c.args.writer.now) (g.W.Write.contents c.loop-lines.writer)) (sym all)
      (replayed c.args.recorder.now.answers.mode c.args.told c.loop-lines.left c.args.recorder.now.answers.runner c.loop-lines.recorder.answers.runner i.done _ _ i.again none)) c.require_none.ensures.none;
  part = λ clean past keeps.
      let i = c.loop-lines.invariant in
      let file = g.D.Disk.seen c.args.recorder.now.log.disk in
      let kept_now = kept_so_far c.args.header.now file c.loop-lines.lines i.done (i.reading clean) in
      part_so_far c.args.recorder.now.answers.mode past c.args.told c.loop-lines.left c.args.recorder.now.answers.runner c.loop-lines.recorder.answers.runner _ i.done _ _ _ (ap said kept_now) keeps i.again;
  refused =
      let i = c.loop-lines.invariant in
      let file = g.D.Disk.seen c.args.recorder.now.log.disk in
      let mode = c.args.recorder.now.answers.mode in
      IfErr-weaker c.require_none.result _ _ (λ error e refused. (
        e.0,
        i.untouched (not_zero c.loop-lines.left e.1 e.2 e.3),
        λ clean.
            let all = kept_at_end c.args.header.now file c.loop-lines.lines i.done (i.reading clean) (sym c.has_more.ensures ∙ c.loop-lines-test.false) in
            rw all (too_few mode c.args.told c.loop-lines.left i.done e.1 i.again.left_is e.2 e.3),
      )) c.require_none.ensures.some;
  begun =
      let i = c.loop-lines.invariant in
      let file = g.D.Disk.seen c.args.recorder.now.log.disk in
      on_err_all c.require_none.result _ (λ clean.
      begun_so_far c.args.told c.loop-lines.left _ i.done [] _ i.again.left_is
      (kept_at_end c.args.header.now file c.loop-lines.lines i.done (i.reading clean) (sym c.has_more.ensures ∙ c.loop-lines-test.false) ∙ sym (append-nil i.done)) i.untouched);
  failure =
      fails_told _ _ _ _ _ c.require_none.result c.loop-lines.invariant.calm (IfErr-weaker c.require_none.result _ _ (λ _ told. told.0) c.require_none.ensures.some);
}
