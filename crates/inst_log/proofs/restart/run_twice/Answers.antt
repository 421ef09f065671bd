use Rattle.std.proofs.Common.{◌≡◌, length, rules}
use Rattle.sqlite_disk.specs.Fuse.{inner_of}
use Rattle.inst_log.specs.Opening.{lines_after_settings}
use Rattle.inst_log.specs.Serving.{batch_lines}
use Rattle.inst_log.proofs.SecondRunAfterCrash.{says_once, stands_behind}
use Rattle.inst_log.proofs.restart.run_twice.Goals as goal

pub returns : goal.returns
returns g c clean =
    let at_sync = c.run-2.ensures.any_moment.clean clean in
    let at_crash = c.sync.ensures.clean at_sync in
    let at_run = c.crash.ensures.clean at_crash in
    let disk = c.args.machine.disk in
    let first = c.args.first.answers in
    let again = c.args.again.answers in
    let batches = batch_lines c.args.first.batches.now in
    let more = batch_lines c.args.again.batches.now in
    let seen = g.D.Disk.seen (inner_of c.crash.new.self) in
    let same : g.D.Disk.seen (inner_of c.sync.new.self) ≡ seen = c.sync.ensures.seen in
    let inner : c.new.result.inner ≡ disk = c.new.ensures.inner in
    let len : c.len.result ≡ length c.run.new.writer.items = search rules in
    let wrote = rw (same, len) at c.in_ok-run.ensures.ok.replied clean in
    let settings = c.args.settings.now in
    let last = g.D.Disk.seen (inner_of c.run-2.new.self.log.disk) in
    let stands = stands_behind settings seen last more (rw same at (c.in_ok-run.ensures.ok.settled clean).1) in
    says_once (g.A.Responder.says first) (g.A.Responder.says again) (lines_after_settings settings (g.D.Disk.seen disk)) batches more (g.D.Disk.may_leave (inner_of c.run.new.self.log.disk)) c.new-told.result.items c.run.new.writer.items
    c.run-2.new.writer.items settings seen (lines_after_settings settings last)
    c.requires.answers.same c.requires.answers.begins c.new-told.ensures.items (rw inner at c.run.ensures.any_moment.kept at_run) c.crash.ensures.left stands wrote
