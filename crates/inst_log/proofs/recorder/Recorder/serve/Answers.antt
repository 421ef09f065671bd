use Rattle.std.proofs.Common.{◌≡◌, ◌∙◌, ap, rules}
use Rattle.std.proofs.lemmas.Result.{on_ok_weaker}
use Rattle.inst_log.specs.Layout.{recovered_lines, IsShut}
use Rattle.inst_base.specs.Handing.{WritesPart}
use Rattle.inst_log.proofs.LogThatGainsLines.{gained_where, stands_unwritten}
use Rattle.inst_log.proofs.ToldRepliesAreKept.{kept_before, kept_after, only_these, part_told, all_told}
use Rattle.inst_log.proofs.recorder.Recorder.serve.Goals as goal

pub returns-in_err-answer-clause-stands : goal.returns-in_err-answer-clause-stands
returns-in_err-answer-clause-stands g c = stands_unwritten g.D.Disk (recovered_lines c.args.batch.now) c.args.self.now.log c.requires.open

pub returns-in_err-append-clause-any_moment : goal.returns-in_err-append-clause-any_moment
returns-in_err-append-clause-any_moment g c clean =
    kept_before (g.A.Responder.says c.args.self.now.answers) _ _ _ _ (g.met.A.Responder.none c.args.self.now.answers) (c.append.ensures.any_moment.lines clean)

pub returns-clause-ok : goal.returns-clause-ok
returns-clause-ok g c =
    let says = g.A.Responder.says c.args.self.now.answers in
    let lines = recovered_lines c.args.batch.now in
    let value : c.deref.result.now ≡ c.answer.new.out.items = c.deref.ensures.value in
    let out = only_these says lines _ _ c.clear.ensures.items c.in_ok-answer.ensures.replies in
    on_ok_weaker c.deliver.result (λ wrote. record {
      gained = gained_where g.D.Disk lines (IsShut (g.D.Disk.seen c.args.self.now.log.disk)) c.args.self.now.log c.append.new.self c.in_ok-append.ensures.ok;
      replied = all_told says lines _ _ _ (rw value at wrote) out;
      on = c.in_ok-answer.ensures.on;
    }) c.deliver.ensures.ok

pub returns-clause-any_moment : goal.returns-clause-any_moment
returns-clause-any_moment g c clean =
    let says = g.A.Responder.says c.args.self.now.answers in
    let lines = recovered_lines c.args.batch.now in
    let (settled, stand) = c.in_ok-append.ensures.ok.log.settled clean in
    let out = only_these says lines _ _ c.clear.ensures.items c.in_ok-answer.ensures.replies in
    let told : WritesPart (g.W.Write.contents c.args.writer.now) (g.W.Write.contents c.deliver.new.writer) c.answer.new.out.items =
    search rules in
    kept_after says _ lines _ _ _ (part_told says lines _ _ _ told out) (λ left may. ap recovered_lines (settled.durable left may) ∙ stand)
