use Rattle.std.proofs.Common.{ℕ, List, Bor, map, option_map, refl}
use Rattle.std.proofs.lemmas.Result.{on_ok_weaker}
use Rattle.inst_program.specs.Keeping.{next_asked}
use Rattle.inst_program.specs.Program.{AskForNext}
use Rattle.inst_program.specs.Program.Done.{Audited, Carried, Explained, Shown}
use Rattle.inst_program.proofs.OutcomeOfTask.{answered, checked, drilled, unanswered_err, unaudited_err, uncarried_err, unchecked_err, undrilled_err, unexplained_err, unshown_err}
use Rattle.inst_program.proofs.LogAfterVisit.{nothing_happened}
use Rattle.inst_program.proofs.tasks.serve.Goals as goal

pub returns-in-Run-clause-ok : goal.returns-in-Run-clause-ok
returns-in-Run-clause-ok g c words wished =
    let is = rw c.in-Run.is at wished in
    on_ok_weaker c.answer.result (answered words _ _ _ _ c.in-Run.settings c.in-Run.log is.0 is.1 is.2 is.3) c.answer.ensures.ok

pub returns-in-Run-clause-err : goal.returns-in-Run-clause-err
returns-in-Run-clause-err g c words wished =
    let is = rw c.in-Run.is at wished in
    unanswered_err words _ _ _ _ c.in-Run.settings c.in-Run.log c.answer.result is.0 is.1 is.2 is.3 c.answer.ensures.err

pub returns-in-Play-clause-ok : goal.returns-in-Play-clause-ok
returns-in-Play-clause-ok g c words wished =
    let is = rw c.in-Play.is at wished in
    on_ok_weaker c.answer-in-Play.result (answered words _ _ _ _ c.in-Play.settings c.in-Play.log is.0 is.1 is.2 is.3) c.answer-in-Play.ensures.ok

pub returns-in-Play-clause-err : goal.returns-in-Play-clause-err
returns-in-Play-clause-err g c words wished =
    let is = rw c.in-Play.is at wished in
    unanswered_err words _ _ _ _ c.in-Play.settings c.in-Play.log c.answer-in-Play.result is.0 is.1 is.2 is.3 c.answer-in-Play.ensures.err

pub returns-in-Drill-clause-ok : goal.returns-in-Drill-clause-ok
returns-in-Drill-clause-ok g c words wished =
    let is = rw c.in-Drill.is at wished in
    on_ok_weaker c.drill_hub.result (drilled words _ _ _ c.in-Drill.settings c.in-Drill.transfers c.in-Drill.openings (option_map (λ (f : Bor (List ℕ)). f.now) c.in-Drill.script) is.0 is.1 is.2 is.3 c.drill_hub.ensures.unread) c.drill_hub.ensures.ok

pub returns-in-Drill-clause-err : goal.returns-in-Drill-clause-err
returns-in-Drill-clause-err g c words wished =
    let is = rw c.in-Drill.is at wished in
    undrilled_err words _ _ _ _ (option_map (λ (f : Bor (List ℕ)). f.now) c.in-Drill.script) c.drill_hub.result is.0 is.1 is.2 is.3 c.drill_hub.ensures.unread c.drill_hub.ensures.err

pub returns-in-Log-clause-ok : goal.returns-in-Log-clause-ok
returns-in-Log-clause-ok g c words wished =
    let is = rw c.in-Log.is at wished in
    on_ok_weaker c.show.result (λ done. Shown refl (c.in-Log.path.now, is, done) c.show.ensures.untouched.all) c.show.ensures.ok

pub returns-in-Log-clause-err : goal.returns-in-Log-clause-err
returns-in-Log-clause-err g c words wished =
    let is = rw c.in-Log.is at wished in
    unshown_err words _ _ _ c.in-Log.path.now c.show.result is refl c.show.ensures.untouched.all c.show.ensures.err

pub returns-in-Next-clause-ok : goal.returns-in-Next-clause-ok
returns-in-Next-clause-ok g c words wished =
    let asked = next_asked c.in-Next.task in
    let is : AskForNext words asked = rw c.in-Next.is at wished in
    on_ok_weaker c.next.result (λ done. Carried refl refl (asked, is, done)) c.next.ensures.ok

pub returns-in-Next-clause-err : goal.returns-in-Next-clause-err
returns-in-Next-clause-err g c words wished =
    let is = rw c.in-Next.is at wished in
    uncarried_err words _ _ _ (next_asked c.in-Next.task) c.next.result is refl refl c.next.ensures.err c.next.ensures.refused

pub returns-in-Audit-clause-ok : goal.returns-in-Audit-clause-ok
returns-in-Audit-clause-ok g c words wished =
    let is = rw c.in-Audit.is at wished in
    on_ok_weaker c.audit.result (λ done. Audited refl (map (λ (p : Bor (List ℕ)). p.now) c.in-Audit.paths.items, is, rw c.deref.ensures.value at done) c.audit.ensures.untouched.all) c.audit.ensures.ok

pub returns-in-Audit-clause-err : goal.returns-in-Audit-clause-err
returns-in-Audit-clause-err g c words wished =
    let is = rw c.in-Audit.is at wished in
    unaudited_err words _ _ _ (map (λ (p : Bor (List ℕ)). p.now) c.in-Audit.paths.items) c.audit.result is refl c.audit.ensures.untouched.all c.audit.ensures.err

pub returns-in-Explain-clause-ok : goal.returns-in-Explain-clause-ok
returns-in-Explain-clause-ok g c words wished =
    let is = rw c.in-Explain.is at wished in
    on_ok_weaker c.explain.result (λ done. Explained refl (c.in-Explain.word.now, is, done) (nothing_happened (g.L.Logs.files c.args.logs.now))) c.explain.ensures.ok

pub returns-in-Explain-clause-err : goal.returns-in-Explain-clause-err
returns-in-Explain-clause-err g c words wished =
    let is = rw c.in-Explain.is at wished in
    unexplained_err words _ _ _ c.in-Explain.word.now c.explain.result is refl (nothing_happened (g.L.Logs.files c.args.logs.now)) c.explain.ensures.err

pub returns-in-Check-clause-ok : goal.returns-in-Check-clause-ok
returns-in-Check-clause-ok g c words wished =
    let is = rw c.in-Check.is at wished in
    on_ok_weaker c.check.result (checked words _ _ _ c.in-Check.settings is.0 is.1 is.2 (nothing_happened (g.L.Logs.files c.args.logs.now))) c.check.ensures.ok

pub returns-in-Check-clause-err : goal.returns-in-Check-clause-err
returns-in-Check-clause-err g c words wished =
    let is = rw c.in-Check.is at wished in
    unchecked_err words _ _ _ c.in-Check.settings c.check.result is.0 is.1 is.2 (nothing_happened (g.L.Logs.files c.args.logs.now)) c.check.ensures.err
