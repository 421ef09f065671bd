use Rattle.std.proofs.Common.{refl, subst}
use Rattle.inst_log.specs.Disks.{HasKeptFaith}
use Rattle.inst_program.specs.Keeping.{kept_run}
use Rattle.inst_program.proofs.LogOnReturnedDisk.{begun_with, keeps_lines, left_as_it_was, left_behind, left_equal, unkept_at_once, unkept_on}
use Rattle.inst_program.proofs.keeping.keep_on.Goals as goal

pub returns-in-Ok-run-clause-ok : goal.returns-in-Ok-run-clause-ok
returns-in-Ok-run-clause-ok g c =
    let disks = g.D.Disk in
    let mode = c.args.task.now.mode in
    let s = c.args.task.now.settings in
    let found = c.in-Ok.hub in
    let hub = c.with_disk-hub.result in
    let made = c.with_disk-hub.ensures in
    let after = c.run.new.self in
    let has = begun_with found.version hub.version mode s found.heading.batch hub.header found.answers hub.recorder.answers made.version made.header made.answers c.in-Ok.ensures.begun.0 in
    let left = left_behind disks c.args.disk c.find_hub.new.disk hub.recorder.log.disk c.find_hub.ensures.read.left (left_equal disks c.find_hub.new.disk hub.recorder.log.disk made.disk) in
    let left' = left_equal disks after.recorder.log.disk c.into_parts-runner.result.1 c.into_parts-runner.ensures.disk in
    let faith = subst (λ (d : g.row.D.Denot). HasKeptFaith disks d) made.disk in
    keeps_lines disks (kept_run mode s c.args.wanted.options) hub after c.args.disk c.into_parts-runner.result.1 has left left' g.met.D.Disk.seen_may_stay c.args.wanted.digest c.requires.wanted
    (λ clean none. rw (made.version, made.header) (c.in-Ok.ensures.first (faith clean) none))
    (λ clean. c.in-Ok.ensures.there (faith clean))
    c.run.ensures.clean (subst (λ (d : g.row.D.Denot). HasKeptFaith disks d) c.into_parts-runner.ensures.disk) _ c.in-Ok-run.ensures.end c.in-Ok-run.ensures.ok

pub returns-in-Err-run-clause-err : goal.returns-in-Err-run-clause-err
returns-in-Err-run-clause-err g c =
    let disks = g.D.Disk in
    let mode = c.args.task.now.mode in
    let s = c.args.task.now.settings in
    let found = c.in-Ok.hub in
    let hub = c.with_disk-hub.result in
    let made = c.with_disk-hub.ensures in
    let after = c.run.new.self in
    let disk' = c.tell_failure.new.disk in
    let has = begun_with found.version hub.version mode s found.heading.batch hub.header found.answers hub.recorder.answers made.version made.header made.answers c.in-Ok.ensures.begun.0 in
    let left = left_behind disks c.args.disk c.find_hub.new.disk hub.recorder.log.disk c.find_hub.ensures.read.left (left_equal disks c.find_hub.new.disk hub.recorder.log.disk made.disk) in
    let parts = c.into_parts-disk in
    let left' = left_behind disks after.recorder.log.disk parts.result.1 disk' (left_equal disks after.recorder.log.disk parts.result.1 parts.ensures.disk) c.tell_failure.ensures.left in
    let faith = subst (λ (d : g.row.D.Denot). HasKeptFaith disks d) made.disk in
    unkept_on disks (kept_run mode s c.args.wanted.options) hub after c.args.disk disk' has left left' g.met.D.Disk.seen_may_stay c.args.wanted.digest c.requires.wanted
    (λ clean none. rw (made.version, made.header) (c.in-Ok.ensures.first (faith clean) none))
    (λ clean. c.in-Ok.ensures.there (faith clean))
    c.run.ensures.clean (λ clean. subst (λ (d : g.row.D.Denot). HasKeptFaith disks d) parts.ensures.disk (c.tell_failure.ensures.clean clean)) _
    c.in-Err-run.error _ c.told_ending-in-Err-run.ensures
    (λ clean version first may. rw (made.version, made.header) (c.in-Ok.ensures.found (faith clean) version first may)) c.in-Err-run.ensures.err c.run.ensures.any_moment

pub returns-in-Err-clause-err : goal.returns-in-Err-clause-err
returns-in-Err-clause-err g c =
    unkept_at_once (kept_run c.args.task.now.mode c.args.task.now.settings c.args.wanted.options) _ _ _ _ c.find_hub.result c.in-Err.error _ refl refl
    (left_as_it_was g.D.Disk c.args.disk c.find_hub.new.disk c.find_hub.ensures.read.left) c.find_hub.ensures.found c.in-Err.is c.told_ending.ensures
