use Rattle.std.proofs.Common.{◌≡◌, ◌-◌, ◌<◌, ℕ, List, [], get_or, length, take, IfSome, IsTrue, refl, sym, subst, arith}
use Rattle.std.specs.String.{string_bytes}
use Rattle.inst_program.specs.Auditing.{AreAudited, IsNextLog, audit_line, file_at}
use Rattle.inst_program.specs.inner.Auditing.{IsAudited}
use Rattle.inst_program.specs.inner.Changing.{hub_closed}
use Rattle.inst_program.specs.declared.auditing.AuditedLog.{AuditedLog}
use Rattle.inst_program.proofs.AuditedLogs.{after_one, all_audited, last_now, names_of, next_audited, no_path, none_audited}
use Rattle.inst_program.proofs.LogAfterVisit.{nothing_happened, untouched_behind}
use Rattle.inst_program.proofs.auditing.audited.Goals as goal

pub loop-path-init : goal.loop-path-init
loop-path-init g c =
    let files = g.L.Logs.files c.args.logs.now in
    record {
      untouched = record { clean = λ is. is; all = nothing_happened files; out = λ _. refl };
      audited = λ _. subst (AreAudited files.bytes []) (sym c.new-text.ensures.bytes) (none_audited files.bytes);
      books = tt;
      first = λ _. refl;
      last = λ _. tt;
    }

pub returns-in_err-log-clause-untouched : goal.returns-in_err-log-clause-untouched
returns-in_err-log-clause-untouched g c = untouched_behind _ _ _ c.loop-path.invariant.untouched c.in_err-log.ensures.untouched

pub returns-in_err-push_line-clause-untouched : goal.returns-in_err-push_line-clause-untouched
returns-in_err-push_line-clause-untouched g c = untouched_behind _ _ _ c.loop-path.invariant.untouched c.in_ok-log.ensures.untouched

pub loop-path-preserved : goal.loop-path-preserved
loop-path-preserved g c =
    let l = c.loop-path in
    let bytes = (g.L.Logs.files c.args.logs.now).bytes in
    let paths = c.args.paths.now in
    let i = l.path-index in
    let inside : i < length paths = omega (arith, c.loop-path-test.true) in
    let name = (get_or paths i no_path).now in
    let log = c.in_ok-log.log in
    let Kept : Type 0 = IsTrue (g.L.Logs.files c.audit_log.new.logs).is_clean in
    let earlier : Kept → IsTrue (g.L.Logs.files l.logs).is_clean = λ kept. c.in_ok-log.ensures.untouched.clean kept in
    let same : Kept → (g.L.Logs.files l.logs).bytes name ≡ bytes name = λ kept. (l.invariant.untouched.all (earlier kept) name).same in
    let audited : Kept → IsAudited (bytes name) log = λ kept. subst (λ (f : List ℕ). IsAudited f log) (same kept) (c.in_ok-log.ensures.audited kept) in
    record {
      untouched = untouched_behind _ _ _ l.invariant.untouched c.in_ok-log.ensures.untouched;
      audited = λ kept.
          let follows = subst (λ (f : List ℕ). IfSome l.before (λ (one : AuditedLog). (file : List ℕ) → IsAudited file one → IsNextLog file f)) (same kept) (c.in_ok-log.ensures.follows kept) in
          next_audited bytes paths i inside (string_bytes l.text) (string_bytes c.push_line.new.text) (audit_line name log.contents.lines log.contents.digest) c.in_ok-push_line.ensures (l.invariant.audited (earlier kept))
          (record {
            closed = hub_closed log.closed;
            closes = (audited kept).closes;
            first = log.contents.first.items;
            lines = log.contents.lines;
            digest = log.contents.digest;
            has = (audited kept).has;
            is = refl;
          })
          (after_one l.before i (bytes name) (file_at bytes (names_of (take i paths)) (i - 1)) l.invariant.first follows (l.invariant.last (earlier kept)));
      books = c.in_ok-log.ensures.books;
      first = λ none. absurd (cc none);
      last = λ kept. last_now bytes paths i inside (λ (f : List ℕ). IsAudited f log) (audited kept);
    }

pub returns-clause-audited : goal.returns-clause-audited
returns-clause-audited g c kept =
    all_audited (g.L.Logs.files c.args.logs.now).bytes c.args.paths.now c.loop-path.path-index (string_bytes c.loop-path.text) (omega (arith, c.loop-path-test.false)) (c.loop-path.invariant.audited kept)
