use Rattle.std.proofs.Common.{◌≡◌, refl, sym, ◌++◌, ◌∙◌, ◌+◌, ◌∷◌, [], List, Vec, ℕ, drop, ap, subst, length, ◌≤◌, ◌^◌, IsTrue, arith, rules}
use Rattle.std.proofs.lemmas.Grind.{common_steps}
use Rattle.std.specs.Bool.{⊤}
use Rattle.std.specs.declared.alloc.Global.{Global}
use Rattle.std.proofs.lemmas.Result.{err_from_is_err_and}
use Rattle.std.proofs.lemmas.List.{append-nil, drop_more, drop_all}
use Rattle.inst_log.specs.Layout.{recovered_lines, blocks, IsShut}
use Rattle.sqlite_disk.specs.Disk.{MoreFaults}
use Rattle.inst_log.specs.Log.{IsSettled, HasGained, HasCause}
use Rattle.inst_log.specs.Serving.{Unanswered, Tells, SaysOn, batch_lines}
use Rattle.inst_log.proofs.CausesOfErrors.{err_passed, unanswered_so}
use Rattle.inst_log.proofs.LogThatGainsLines.{gained_none, gained_more}
use Rattle.inst_log.proofs.ToldRepliesAreKept.{served_len, served_none, served_more, kept_on, kept_all}
use Rattle.inst_log.proofs.recorder.Recorder.serve_all.Goals as goal

pub returns-in_err-serve-clause-any_moment : goal.returns-in_err-serve-clause-any_moment
returns-in_err-serve-clause-any_moment g c clean =
    let i = c.loop-batch.batch-index in
    let bs = c.args.batches.now in
    let item = c.batch-item.result in
    let s = c.loop-batch.invariant.served in
    let was = subst IsTrue c.serve.ensures.stands.clean clean in
    let next : drop i bs ≡ item ∷ drop (i + 1) bs = search (rules, drop_more) in
    let same : c.as_slice.result.now ≡ item.items = c.as_slice.ensures.value in
    kept_on _ _ _ _ _ _ _ _ _ item _ _ _ next s (s.kept.log.settled was).1 (rw same at c.serve.ensures.any_moment clean)

pub returns-in_err-serve-clause-cause : goal.returns-in_err-serve-clause-cause
returns-in_err-serve-clause-cause g c =
    let s = c.loop-batch.invariant.served in
    let old = c.args.self.now.log in
    let mid = c.loop-batch.self.log in
    let new = c.serve.new.self.log in
    let clean = IsTrue (g.D.Disk.is_clean new.disk) in
    let settled = IsSettled g.D.Disk.seen g.D.Disk.may_leave new in
    let fails = HasCause (MoreFaults (g.D.Disk.faults old.disk) (g.D.Disk.faults new.disk)) ⊤ ⊥ in
    let stand = recovered_lines (g.D.Disk.seen new.disk) ≡ recovered_lines (g.D.Disk.seen mid.disk) ++ recovered_lines c.as_slice.result.now in
    let full = 2 ^ 62 ≤ old.end + length (blocks (batch_lines c.args.batches.now)) in
    let error = c.in_err-serve.field-0.0 in
    let cause = subst (λ (n : ℕ). Unanswered (HasCause (MoreFaults n (g.D.Disk.faults new.disk)) ⊤ ⊥) (2 ^ 62 ≤ mid.end) ⊥ (clean → settled × stand) error) s.kept.log.calm c.in_err-serve.ensures.cause in
    err_passed (Unanswered fails full ⊥ (clean → settled)) c.from_residual.result _ (err_from_is_err_and c.from_residual.result c.from_residual.ensures.1)
    (unanswered_so fails fails (2 ^ 62 ≤ mid.end) full ⊥ ⊥ (clean → settled × stand) (clean → settled) error (λ e f. f)
    (λ many. omega (arith, many, s.kept.end, served_len _ _ _ _ _ _ _ s)) (λ f. f) (λ f is. (f is).0) cause)

pub loop-batch-init : goal.loop-batch-init
loop-batch-init g c =
    record {
      served = served_none _ _ _ _ (g.met.A.Responder.none c.args.self.now.answers) c.requires.batches (gained_none g.D.Disk c.args.self.now.log c.requires.open);
      clean = refl;
    }

pub loop-batch-preserved : goal.loop-batch-preserved
loop-batch-preserved g c =
    let i = c.loop-batch.batch-index in
    let bs = c.args.batches.now in
    let item = c.batch-item.result in
    let s = c.loop-batch.invariant.served in
    let next : drop i bs ≡ item ∷ drop (i + 1) bs = search (rules, drop_more) in
    let same : c.as_slice.result.now ≡ item.items = c.as_slice.ensures.value in
    let answered = rw same at c.in_ok-serve.ensures.ok in
    record {
      served = served_more _ _ _ _ _ _ _ _ _ _ _ item next s answered.replied answered.on (λ done keeps.
          gained_more g.D.Disk done (recovered_lines item.items) c.args.self.now.log c.loop-batch.self.log c.serve.new.self.log c.serve.ensures.stands.clean keeps answered.gained);
      clean = c.serve.ensures.stands.clean ∙ c.loop-batch.invariant.clean;
    }

pub serve-requires-clause-batch : goal.serve-requires-clause-batch
serve-requires-clause-batch g c = grind (arith, common_steps)

pub serve-requires-clause-open : goal.serve-requires-clause-open
serve-requires-clause-open g c =
    let log = c.loop-batch.invariant.served.kept.log in
    record { usable = log.usable; settled = λ clean. (log.settled clean).0 }

pub returns-clause-any_moment : goal.returns-clause-any_moment
returns-clause-any_moment g c clean =
    let s = c.loop-batch.invariant.served in
    let none : drop c.loop-batch.batch-index c.args.batches.now ≡ [] = drop_all c.loop-batch.batch-index c.args.batches.now (search rules) in
    let (settled, stand) = s.kept.log.settled clean in
    kept_all _ _ _ _ _ _ _ _ _ none s (λ left may. ap recovered_lines (settled.durable left may) ∙ stand)

pub returns-clause-ok : goal.returns-clause-ok
returns-clause-ok g c =
    let s = c.loop-batch.invariant.served in
    let none : drop c.loop-batch.batch-index c.args.batches.now ≡ [] = drop_all c.loop-batch.batch-index c.args.batches.now (search rules) in
    let all : s.done ≡ batch_lines c.args.batches.now = sym (append-nil s.done) ∙ ap (λ (l : List (Vec ℕ Global)). s.done ++ batch_lines l) (sym none) ∙ s.split in
    record {
      gained = subst (λ (lines : List (List ℕ)). HasGained g.D.Disk lines (IsShut (g.D.Disk.seen c.args.self.now.log.disk)) c.args.self.now.log c.loop-batch.self.log) all s.kept;
      replied = subst (λ (lines : List (List ℕ)). Tells (g.A.Responder.says c.args.self.now.answers) lines (g.W.Write.contents c.args.writer.now) (g.W.Write.contents c.loop-batch.writer)) all s.tells;
      on = subst (λ (lines : List (List ℕ)). SaysOn (g.A.Responder.says c.args.self.now.answers) lines (g.A.Responder.says c.loop-batch.self.answers)) all s.on;
    }
