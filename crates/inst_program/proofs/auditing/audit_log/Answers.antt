use Rattle.std.proofs.Common.{◌≡◌, ◌∙◌, ℕ, List, IfSome, sym, subst}
use Rattle.inst_program.specs.Auditing.{IsClosedAs, IsNextLog}
use Rattle.inst_program.specs.inner.Auditing.{IsAudited}
use Rattle.inst_program.specs.inner.Changing.{hub_closed}
use Rattle.inst_program.specs.declared.auditing.AuditedLog.{AuditedLog}
use Rattle.inst_program.proofs.LogAfterVisit.{untouched_behind}
use Rattle.inst_program.proofs.auditing.audit_log.Goals as goal

pub returns-in-Ok-clause-audited : goal.returns-in-Ok-clause-audited
returns-in-Ok-clause-audited g c clean =
    let name = c.args.path.now in
    let mid = c.in_ok-disk.ensures.untouched.clean clean in
    let same : c.in_ok-disk.disk.bytes.items ≡ (g.L.Logs.files c.args.logs.now).bytes name = c.in_ok-disk.ensures.bytes clean ∙ (c.in_ok-contents.ensures.untouched.all mid name).same in
    record {
      has = c.in_ok-contents.ensures.ok mid;
      closes = subst (λ (f : List ℕ). IsClosedAs f (hub_closed c.in-Ok.closed)) same c.in-Ok.ensures.closed;
    }

pub returns-in-Ok-clause-follows : goal.returns-in-Ok-clause-follows
returns-in-Ok-clause-follows g c clean =
    let name = c.args.path.now in
    let mid = c.in_ok-disk.ensures.untouched.clean clean in
    let same : c.in_ok-disk.disk.bytes.items ≡ (g.L.Logs.files c.args.logs.now).bytes name = c.in_ok-disk.ensures.bytes clean ∙ (c.in_ok-contents.ensures.untouched.all mid name).same in
    subst (λ (f : List ℕ). IfSome c.args.before (λ (one : AuditedLog). (file : List ℕ) → IsAudited file one → IsNextLog file f)) same c.in-Ok.ensures.follows

pub returns-in_err-disk-clause-untouched : goal.returns-in_err-disk-clause-untouched
returns-in_err-disk-clause-untouched g c = untouched_behind _ _ _ c.in_ok-contents.ensures.untouched c.in_err-disk.ensures.untouched

pub returns-in-Ok-clause-untouched : goal.returns-in-Ok-clause-untouched
returns-in-Ok-clause-untouched g c = untouched_behind _ _ _ c.in_ok-contents.ensures.untouched c.in_ok-disk.ensures.untouched

pub returns-in-Err-clause-untouched : goal.returns-in-Err-clause-untouched
returns-in-Err-clause-untouched g c = untouched_behind _ _ _ c.in_ok-contents.ensures.untouched c.in_ok-disk.ensures.untouched
