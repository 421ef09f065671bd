use Rattle.std.proofs.Common.{inl, sym, ◌∙◌, ap, subst, [], map, List, ℕ}
use Rattle.std.proofs.lemmas.Result.{err_from_is_err_and}
use Rattle.std.specs.Prelude.{MatchBool}
use Rattle.inst_log.specs.Layout.{recovered_lines}
use Rattle.inst_log.proofs.ToldRepliesAreKept.{kept_before}
use Rattle.inst_chain.specs.Chain.{HasNoMark}
use Rattle.inst_chain.proofs.LinesWithoutMarks.{said_plain}
use Rattle.inst_logged.specs.Input.{logged_line}
use Rattle.inst_logged.specs.inner.Input.{lines_from}
use Rattle.inst_logged.specs.inner.Logged.{Came, Turned, Ended}
use Rattle.inst_logged.proofs.FailuresOfLoggedHub.{unrefused_fails, fails_so}
use Rattle.inst_logged.proofs.ReadBehindPartOfLine.{turned_of, came_of, plain_logged}
use Rattle.inst_logged.proofs.MarksStayRight.{same_intact, writing_intact, now_intact}
use Rattle.inst_logged.proofs.hub.LoggedHub.turn.Goals as goal

pub returns-in_err-more-clause-any_moment : goal.returns-in_err-more-clause-any_moment
returns-in_err-more-clause-any_moment g c clean part same =
    let (read, consumes) = c.in_err-more.ensures.err in
    let lines = map logged_line (lines_from part read) in
    record {
      lines = lines;
      came = record { read = read; consumes = consumes; lines_are = inl (said_plain lines (plain_logged (lines_from part read))) };
      kept = kept_before _ _ lines _ _ (λ f said. said.are []) (λ left may. inl (ap recovered_lines ((c.requires.ready.measured.is_open.settled clean).durable left may)));
    }

pub returns-in_err-mark_batch-clause-any_moment : goal.returns-in_err-mark_batch-clause-any_moment
returns-in_err-mark_batch-clause-any_moment g c clean part same =
    let lines = recovered_lines c.read.new.batch.items in
    let plain = c.in_ok-more.ensures.plain (subst (λ (b : List ℕ). HasNoMark (recovered_lines b)) (sym c.clear.ensures.items) tt) in
    record {
      lines = lines;
      came = subst (λ (ls : List (List ℕ)). Came part ls (g.R.Read.remaining c.args.reader.now) (g.R.Read.remaining c.read.new.reader)) (sym (said_plain lines plain))
          (came_of part c.read.new.self _ _ _ c.in_ok-more.more (turned_of c.args.self.now.intake c.read.new.self _ _ part _ _ c.in_ok-more.more c.clear.ensures.items same c.in_ok-more.ensures.lines));
      kept = kept_before _ _ lines _ _ (λ f said. said.are []) (λ left may. inl (ap recovered_lines ((c.requires.ready.measured.is_open.settled clean).durable left may)));
    }

pub returns-in_err-serve_measured-clause-any_moment : goal.returns-in_err-serve_measured-clause-any_moment
returns-in_err-serve_measured-clause-any_moment g c clean part same =
    let lines = recovered_lines c.read.new.batch.items in
    let plain = c.in_ok-more.ensures.plain (subst (λ (b : List ℕ). HasNoMark (recovered_lines b)) (sym c.clear.ensures.items) tt) in
    record {
      lines = recovered_lines c.mark_batch.new.batch.items;
      came = subst (λ (ls : List (List ℕ)). Came part ls (g.R.Read.remaining c.args.reader.now) (g.R.Read.remaining c.read.new.reader)) (sym (c.in_ok-mark_batch.ensures.said ∙ said_plain lines plain))
          (came_of part c.read.new.self _ _ _ c.in_ok-more.more (turned_of c.args.self.now.intake c.read.new.self _ _ part _ _ c.in_ok-more.more c.clear.ensures.items same c.in_ok-more.ensures.lines));
      kept = c.serve_measured.ensures.any_moment.kept clean;
    }

pub returns-clause-ok : goal.returns-clause-ok
returns-clause-ok g c part same =
    let lines = recovered_lines c.read.new.batch.items in
    let plain = c.in_ok-more.ensures.plain (subst (λ (b : List ℕ). HasNoMark (recovered_lines b)) (sym c.clear.ensures.items) tt) in
    record {
      lines = recovered_lines c.mark_batch.new.batch.items;
      came = subst (λ (ls : List (List ℕ)). MatchBool c.in_ok-more.more (Turned part c.read.new.self ls (g.R.Read.remaining c.args.reader.now) (g.R.Read.remaining c.read.new.reader))
          (Ended part ls (g.R.Read.remaining c.args.reader.now) (g.R.Read.remaining c.read.new.reader))) (sym (c.in_ok-mark_batch.ensures.said ∙ said_plain lines plain))
          (turned_of c.args.self.now.intake c.read.new.self _ _ part _ _ c.in_ok-more.more c.clear.ensures.items same c.in_ok-more.ensures.lines);
      tells = c.in_ok-serve_measured.ensures.ok.replied;
      on = c.in_ok-serve_measured.ensures.ok.on;
      settled = c.in_ok-serve_measured.ensures.ok.gained.log.settled;
    }

pub returns-clause-any_moment : goal.returns-clause-any_moment
returns-clause-any_moment g c clean part same =
    let lines = recovered_lines c.read.new.batch.items in
    let plain = c.in_ok-more.ensures.plain (subst (λ (b : List ℕ). HasNoMark (recovered_lines b)) (sym c.clear.ensures.items) tt) in
    record {
      lines = recovered_lines c.mark_batch.new.batch.items;
      came = subst (λ (ls : List (List ℕ)). Came part ls (g.R.Read.remaining c.args.reader.now) (g.R.Read.remaining c.read.new.reader)) (sym (c.in_ok-mark_batch.ensures.said ∙ said_plain lines plain))
          (came_of part c.read.new.self _ _ _ c.in_ok-more.more (turned_of c.args.self.now.intake c.read.new.self _ _ part _ _ c.in_ok-more.more c.clear.ensures.items same c.in_ok-more.ensures.lines));
      kept = c.serve_measured.ensures.any_moment.kept clean;
    }

-- marks stay right

pub returns-in_err-more-clause-intact : goal.returns-in_err-more-clause-intact
returns-in_err-more-clause-intact g c mixes clean left may =
    same_intact c.args.self.now.version _ left c.args.self.now.marker (c.requires.ready.intact clean) ((c.requires.ready.measured.is_open.settled clean).durable left may)

pub returns-in_err-mark_batch-clause-intact : goal.returns-in_err-mark_batch-clause-intact
returns-in_err-mark_batch-clause-intact g c mixes clean left may =
    same_intact c.args.self.now.version _ left c.args.self.now.marker (c.requires.ready.intact clean) ((c.requires.ready.measured.is_open.settled clean).durable left may)

pub returns-in_err-serve_measured-clause-intact : goal.returns-in_err-serve_measured-clause-intact
returns-in_err-serve_measured-clause-intact g c mixes clean left may =
    let before = c.serve_measured.ensures.any_moment.clean clean in
    let plain = c.in_ok-more.ensures.plain (subst (λ (b : List ℕ). HasNoMark (recovered_lines b)) (sym c.clear.ensures.items) tt) in
    writing_intact c.args.self.now.version (g.D.Disk.seen c.args.self.now.recorder.log.disk) left (recovered_lines c.mark_batch.new.batch.items) c.args.self.now.marker c.mark_batch.new.marker (c.requires.ready.intact before)
    (c.serve_measured.ensures.any_moment.stands clean left may) (λ shut. c.serve_measured.ensures.any_moment.shut mixes clean shut left may)
    (λ whole shut. c.in_ok-mark_batch.ensures.intact plain _ left (c.requires.ready.intact before) whole shut)

pub returns-clause-intact : goal.returns-clause-intact
returns-clause-intact g c mixes clean left may =
    let before = c.serve_measured.ensures.any_moment.clean clean in
    let plain = c.in_ok-more.ensures.plain (subst (λ (b : List ℕ). HasNoMark (recovered_lines b)) (sym c.clear.ensures.items) tt) in
    writing_intact c.args.self.now.version (g.D.Disk.seen c.args.self.now.recorder.log.disk) left (recovered_lines c.mark_batch.new.batch.items) c.args.self.now.marker c.mark_batch.new.marker (c.requires.ready.intact before)
    (c.serve_measured.ensures.any_moment.stands clean left may) (λ shut. c.serve_measured.ensures.any_moment.shut mixes clean shut left may)
    (λ whole shut. c.in_ok-mark_batch.ensures.intact plain _ left (c.requires.ready.intact before) whole shut)

pub returns-clause-ready : goal.returns-clause-ready
returns-clause-ready g c = record {
  measured = c.in_ok-serve_measured.ensures.measured;
  intact = λ clean.
      let before = c.serve_measured.ensures.any_moment.clean clean in
      let plain = c.in_ok-more.ensures.plain (subst (λ (b : List ℕ). HasNoMark (recovered_lines b)) (sym c.clear.ensures.items) tt) in
      now_intact c.args.self.now.version (g.D.Disk.seen c.args.self.now.recorder.log.disk) (g.D.Disk.seen c.serve_measured.new.recorder.log.disk) c.args.self.now.marker c.mark_batch.new.marker (c.requires.ready.intact before)
      (c.in_ok-serve_measured.ensures.ok.gained.log.shut clean)
      (λ shut. c.in_ok-mark_batch.ensures.intact plain _ _ (c.requires.ready.intact before) (c.in_ok-serve_measured.ensures.ok.gained.log.settled clean).1 shut);
  part = c.in_ok-more.ensures.part;
}

-- the log failed

pub returns-in_err-more-clause-failure : goal.returns-in_err-more-clause-failure
returns-in_err-more-clause-failure g c =
    let disk = c.args.self.now.recorder.log.disk in
    unrefused_fails g.D.Disk disk disk _ _ c.from_residual.result _ (err_from_is_err_and c.from_residual.result c.from_residual.ensures.1) c.in_err-more.ensures.unrefused
    (λ clean. fails_so _ _ _ _ _ _ c.in_err-more.field-0.0 (λ no. absurd no) (λ no. absurd no) (λ no. absurd no) c.in_err-more.ensures.failure)

pub returns-in_err-mark_batch-clause-failure : goal.returns-in_err-mark_batch-clause-failure
returns-in_err-mark_batch-clause-failure g c =
    let disk = c.args.self.now.recorder.log.disk in
    unrefused_fails g.D.Disk disk disk _ _ c.from_residual-in_err-mark_batch.result _ (err_from_is_err_and c.from_residual-in_err-mark_batch.result c.from_residual-in_err-mark_batch.ensures.1) (λ no. no) (λ clean. ((λ is. cc is), tt))

pub returns-in_err-serve_measured-clause-failure : goal.returns-in_err-serve_measured-clause-failure
returns-in_err-serve_measured-clause-failure g c =
    unrefused_fails g.D.Disk c.args.self.now.recorder.log.disk c.serve_measured.new.recorder.log.disk _ _ c.from_residual-in_err-serve_measured.result _ (err_from_is_err_and c.from_residual-in_err-serve_measured.result c.from_residual-in_err-serve_measured.ensures.1)
    c.in_err-serve_measured.ensures.failure.unrefused c.in_err-serve_measured.ensures.failure.failure
