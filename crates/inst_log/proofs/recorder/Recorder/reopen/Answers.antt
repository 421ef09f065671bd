use Rattle.std.proofs.Common.{◌≡◌, ◌<◌, ◌≤◌, ap, length, drop, arith, rules}
use Rattle.std.proofs.lemmas.Result.{on_ok_weaker}
use Rattle.std.proofs.lemmas.List.{take_rest}
use Rattle.std.specs.Io.KnownBytes.{Appends}
use Rattle.inst_log.specs.Opening.{lines_after_settings}
use Rattle.inst_base.specs.Handing.{WritesPart}
use Rattle.inst_log.specs.Serving.{Owing}
use Rattle.inst_log.proofs.ToldRepliesAreKept.{text_behind, all_told, part_told, owed_now}
use Rattle.inst_log.proofs.recorder.Recorder.reopen.Goals as goal

pub slice_bounds-answer-count : goal.slice_bounds-answer-count
slice_bounds-answer-count g c = omega (arith, ap length c.deref.ensures.value, c.in_ok-text.ensures.text.front)

pub returns-then-told-len-clause-cause : goal.returns-then-told-len-clause-cause
returns-then-told-len-clause-cause g c clean replies said =
    let settings = c.args.settings.now in
    let file = g.D.Disk.seen c.args.self.now.log.disk in
    let lines = text_behind settings c.in_ok-text.text.items file c.requires.settings (c.in_ok-text.ensures.text.lines clean) in
    let value : c.deref.result.now ≡ c.in_ok-text.text.items = c.deref.ensures.value in
    let out : c.answer.new.out.items ≡ replies (lines_after_settings settings file) = rw (take_rest, value, lines, c.clear.ensures.items) at (c.in_ok-answer.ensures.replies replies said) in
    let few : length c.answer.new.out.items < c.args.told = search rules in
    rw (← out) few

pub returns-clause-replied : goal.returns-clause-replied
returns-clause-replied g c =
    on_ok_weaker c.deliver.result (λ wrote clean.
    let says = g.A.Responder.says c.args.self.now.answers in
    let settings = c.args.settings.now in
    let first = lines_after_settings settings (g.D.Disk.seen c.args.self.now.log.disk) in
    let lines = text_behind settings c.in_ok-text.text.items (g.D.Disk.seen c.args.self.now.log.disk) c.requires.settings (c.in_ok-text.ensures.text.lines clean) in
    let value : c.deref.result.now ≡ c.in_ok-text.text.items = c.deref.ensures.value in
    let value-2 : c.deref-2.result.now ≡ c.answer.new.out.items = c.deref-2.ensures.value in
    let out = rw (take_rest, value, lines, c.clear.ensures.items) at c.in_ok-answer.ensures.replies in
    let told : Appends (g.W.Write.contents c.args.writer.now) (g.W.Write.contents c.deliver.new.writer) (drop c.args.told c.answer.new.out.items) =
    rw (value-2, take_rest c.answer.new.out.items c.args.told) at wrote in
    all_told (Owing says first c.args.told) _ _ _ _ told (owed_now says first c.args.told _ out)) c.deliver.ensures.ok

pub returns-clause-told : goal.returns-clause-told
returns-clause-told g c =
    on_ok_weaker c.deliver.result (λ wrote clean replies said.
    let settings = c.args.settings.now in
    let file = g.D.Disk.seen c.args.self.now.log.disk in
    let lines = text_behind settings c.in_ok-text.text.items file c.requires.settings (c.in_ok-text.ensures.text.lines clean) in
    let value : c.deref.result.now ≡ c.in_ok-text.text.items = c.deref.ensures.value in
    let out : c.answer.new.out.items ≡ replies (lines_after_settings settings file) = rw (take_rest, value, lines, c.clear.ensures.items) at (c.in_ok-answer.ensures.replies replies said) in
    let few : c.args.told ≤ length c.answer.new.out.items = search rules in
    rw (← out) few) c.deliver.ensures.ok

pub returns-clause-part : goal.returns-clause-part
returns-clause-part g c clean =
    let says = g.A.Responder.says c.args.self.now.answers in
    let settings = c.args.settings.now in
    let first = lines_after_settings settings (g.D.Disk.seen c.args.self.now.log.disk) in
    let lines = text_behind settings c.in_ok-text.text.items (g.D.Disk.seen c.args.self.now.log.disk) c.requires.settings (c.in_ok-text.ensures.text.lines clean) in
    let value : c.deref.result.now ≡ c.in_ok-text.text.items = c.deref.ensures.value in
    let value-2 : c.deref-2.result.now ≡ c.answer.new.out.items = c.deref-2.ensures.value in
    let out = rw (take_rest, value, lines, c.clear.ensures.items) at c.in_ok-answer.ensures.replies in
    let told : WritesPart (g.W.Write.contents c.args.writer.now) (g.W.Write.contents c.deliver.new.writer) (drop c.args.told c.answer.new.out.items) =
    rw (value-2, take_rest c.answer.new.out.items c.args.told) at c.deliver.ensures.part in
    part_told (Owing says first c.args.told) _ _ _ _ told (owed_now says first c.args.told _ out)

pub returns-clause-on : goal.returns-clause-on
returns-clause-on g c =
    on_ok_weaker c.deliver.result (λ wrote clean.
    let settings = c.args.settings.now in
    let file = g.D.Disk.seen c.args.self.now.log.disk in
    let lines = text_behind settings c.in_ok-text.text.items file c.requires.settings (c.in_ok-text.ensures.text.lines clean) in
    let value : c.deref.result.now ≡ c.in_ok-text.text.items = c.deref.ensures.value in
    rw (take_rest, value, lines) at c.in_ok-answer.ensures.on) c.deliver.ensures.ok

pub returns-clause-log : goal.returns-clause-log
returns-clause-log g c = on_ok_weaker c.deliver.result (λ wrote. c.in_ok-text.ensures.log) c.deliver.ensures.ok

pub returns-clause-began : goal.returns-clause-began
returns-clause-began g c = on_ok_weaker c.deliver.result (λ wrote. c.in_ok-text.ensures.text.opens) c.deliver.ensures.ok
