use Rattle.std.proofs.Common.{◌≡◌, ℕ, ◌≤◌, ◌+◌, ◌^◌, List, [], ◌++◌, length, length-append, ◌∙◌, ap, subst, arith, IsTrue}
use Rattle.std.specs.Bool.{⊤}
use Rattle.std.proofs.lemmas.Result.{on_ok_weaker, IfErr-weaker}
use Rattle.sqlite_disk.specs.Disk.{MoreFaults}
use Rattle.inst_log.specs.Layout.{recovered_lines, blocks}
use Rattle.inst_log.specs.Log.{IsSettled, HasCause}
use Rattle.inst_log.specs.Opening.{lines_after_settings, Unopened}
use Rattle.inst_log.specs.Serving.{batch_lines, Owing, HasFewer}
use Rattle.inst_log.proofs.Lines.{blocks-append}
use Rattle.inst_log.proofs.CausesOfErrors.{unopened, unanswered_so}
use Rattle.inst_log.proofs.ToldRepliesAreKept.{owing_on, tells_more, run_kept, run_opens, reopen_kept}
use Rattle.inst_log.proofs.recorder.Recorder.run.Goals as goal

pub returns-in_err-reopen-clause-any_moment : goal.returns-in_err-reopen-clause-any_moment
returns-in_err-reopen-clause-any_moment g c =
    let settings = c.args.settings.now in
    let first = lines_after_settings settings (g.D.Disk.seen c.args.self.now.log.disk) in
    record {
      kept = λ clean.
          reopen_kept (Owing (g.A.Responder.says c.args.self.now.answers) first c.args.told) first settings _ _ _ (batch_lines c.args.batches.now)
          (c.reopen.ensures.part clean) (λ left may. (c.reopen.ensures.any_moment.alike clean left may).lines);
      opens = λ clean opens left may. (c.reopen.ensures.any_moment.alike clean left may).opens opens;
      clean = c.reopen.ensures.any_moment.clean;
    }

pub returns-clause-cause : goal.returns-clause-cause
returns-clause-cause g c =
    let settings = c.args.settings.now in
    let old = c.args.self.now.log.disk in
    let mid = c.reopen.new.self.log in
    let new = c.serve_all.new.self.log in
    let file = g.D.Disk.seen old in
    let clean = IsTrue (g.D.Disk.is_clean new.disk) in
    let same = g.D.Disk.seen new.disk ≡ file in
    let failed = clean → MoreFaults (g.D.Disk.faults old) (g.D.Disk.faults new.disk) in
    let lines = batch_lines c.args.batches.now in
    let before = HasCause (MoreFaults (g.D.Disk.faults mid.disk) (g.D.Disk.faults new.disk)) ⊤ ⊥ in
    let few = clean → HasFewer (g.A.Responder.says c.args.self.now.answers) (lines_after_settings settings file) c.args.told in
    let full = clean → 2 ^ 62 ≤ length (blocks ((recovered_lines settings ++ lines_after_settings settings file) ++ lines)) in
    let rests = clean → IsSettled g.D.Disk.seen g.D.Disk.may_leave new in
    IfErr-weaker c.serve_all.result _ _ (λ error cause.
    unanswered_so before (Unopened settings file clean same failed) (2 ^ 62 ≤ mid.end + length (blocks lines)) full ⊥ few rests rests error
    (λ e fault. unopened settings file clean same (MoreFaults (g.D.Disk.faults mid.disk) (g.D.Disk.faults new.disk)) failed e (λ more is. subst (λ (n : ℕ). MoreFaults n (g.D.Disk.faults new.disk)) c.in_ok-reopen.ensures.log.calm more) fault)
    (λ many is.
    let (settled, stand) = c.in_ok-reopen.ensures.log.settled (subst IsTrue c.serve_all.ensures.clean is) in
    omega (arith, many, settled.closed.ends, ap (λ (ls : List (List ℕ)). length (blocks ls)) stand, ap length (blocks-append (recovered_lines settings ++ lines_after_settings settings file) lines), length-append (blocks (recovered_lines settings ++ lines_after_settings settings file)) (blocks lines)))
    (λ none. absurd none) (λ f. f) cause) c.serve_all.ensures.cause

pub returns-clause-ok : goal.returns-clause-ok
returns-clause-ok g c =
    on_ok_weaker c.serve_all.result (λ answered.
    let old = g.A.Responder.says c.args.self.now.answers in
    let mid = g.A.Responder.says c.reopen.new.self.answers in
    let first = lines_after_settings c.args.settings.now (g.D.Disk.seen c.args.self.now.log.disk) in
    record {
      settled = λ clean.
          let (settled, stand) = answered.gained.log.settled clean in
          (settled, stand ∙ ap (λ (ls : List (List ℕ)). ls ++ batch_lines c.args.batches.now) (c.in_ok-reopen.ensures.log.settled (subst IsTrue c.serve_all.ensures.clean clean)).1);
      replied = λ clean.
          let was = subst IsTrue c.serve_all.ensures.clean clean in
          tells_more (Owing old first c.args.told) mid _ _ _ [] (batch_lines c.args.batches.now)
          (owing_on old first c.args.told mid (c.in_ok-reopen.ensures.on was) (c.in_ok-reopen.ensures.told was))
          (c.in_ok-reopen.ensures.replied was) answered.replied;
      began = λ clean. c.in_ok-reopen.ensures.began (subst IsTrue c.serve_all.ensures.clean clean);
    }) c.serve_all.ensures.ok

pub returns-clause-any_moment : goal.returns-clause-any_moment
returns-clause-any_moment g c =
    let settings = c.args.settings.now in
    let old = g.A.Responder.says c.args.self.now.answers in
    let mid = g.A.Responder.says c.reopen.new.self.answers in
    let first = lines_after_settings settings (g.D.Disk.seen c.args.self.now.log.disk) in
    record {
      kept = λ clean.
          let was = subst IsTrue c.serve_all.ensures.clean clean in
          run_kept (Owing old first c.args.told) first settings _ mid _ _ _ _ (batch_lines c.args.batches.now)
          (owing_on old first c.args.told mid (c.in_ok-reopen.ensures.on was) (c.in_ok-reopen.ensures.told was))
          (c.in_ok-reopen.ensures.replied was) (c.in_ok-reopen.ensures.log.settled was).1 (c.serve_all.ensures.any_moment clean);
      opens = λ clean opens left may.
          let was = subst IsTrue c.serve_all.ensures.clean clean in
          run_opens (Owing old first c.args.told) first settings _ mid _ _ _ (batch_lines c.args.batches.now)
          (c.in_ok-reopen.ensures.log.settled was).1 (c.serve_all.ensures.any_moment clean) left may;
      clean = λ clean. c.reopen.ensures.any_moment.clean (subst IsTrue c.serve_all.ensures.clean clean);
    }
