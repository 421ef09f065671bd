use Rattle.std.proofs.Common.{inl, inr, IsTrue, sym, subst}
use Rattle.inst_agenda.specs.declared.runner.Runner.{Runner}
use Rattle.inst_world.specs.HasRun.{world_settings}
use Rattle.inst_world.specs.NextOpening.{AreClosedBooks}
use Rattle.inst_log.specs.Disks.{HasKeptFaith}
use Rattle.inst_program.specs.Files.{change_on}
use Rattle.inst_program.specs.Keeping.{CarriesBooks}
use Rattle.inst_program.proofs.LogOnReturnedDisk.{begun_with, carries_on, left_behind, left_equal, left_as_it_was, safe_on}
use Rattle.inst_program.proofs.CausesOfUnclosedHub.{unfound_to_close, untaken_to_close}
use Rattle.inst_program.proofs.carrying.close_hub.Goals as goal

pub returns-in-Ok-books : goal.returns-in-Ok-books
returns-in-Ok-books g c =
    let disks = g.D.Disk in
    let mode = c.args.header.now.mode in
    let s = c.args.header.now.settings in
    let found = c.in-Ok.hub in
    let hub = c.with_disk-hub.result in
    let made = c.with_disk-hub.ensures in
    let after = c.close-books.new.self in
    let disk' = c.into_parts-runner.result.1 in
    let has = begun_with found.version hub.version mode s found.heading.batch hub.header found.answers hub.recorder.answers made.version made.header made.answers c.in-Ok.ensures.begun.0 in
    let left = left_behind disks c.args.disk c.of_log.new.disk hub.recorder.log.disk c.of_log.ensures.read.left (left_equal disks c.of_log.new.disk hub.recorder.log.disk made.disk) in
    let left' = left_equal disks after.recorder.log.disk disk' c.into_parts-runner.ensures.disk in
    let stay = g.met.D.Disk.seen_may_stay in
    let faithful = subst (λ (d : g.row.D.Denot). HasKeptFaith disks d) c.into_parts-runner.ensures.disk in
    record {
      ok = λ clean' digest asked.
          let clean : HasKeptFaith disks after.recorder.log.disk = faithful clean' in
          let clean-found : HasKeptFaith disks c.of_log.new.disk = subst (λ (d : g.row.D.Denot). HasKeptFaith disks d) made.disk (c.close-books.ensures.clean clean) in
          let there = (c.requires.read (c.of_log.ensures.read.clean clean-found)).there in
          let closes = c.in-Ok-books.ensures.ok clean in
          let carried = carries_on disks mode s hub after c.args.disk disk' has left left' stay digest c.args.wanted asked c.in-Ok-books.journals.items there closes (c.close-books.ensures.any_moment clean) in
          subst (λ (r : Runner). CarriesBooks digest ((d : g.row.D.Denot) → IsTrue (disks.is_mixing d)) (record { mode = mode; settings = world_settings r.world; journals = c.in-Ok-books.journals.items }) (change_on disks c.args.disk disk'))
          (sym c.into_parts-runner.ensures.runner) carried;
      books = subst (λ (r : Runner). AreClosedBooks (world_settings r.world) c.in-Ok-books.journals.items) (sym c.into_parts-runner.ensures.runner) c.in-Ok-books.ensures.closed;
      err = tt;
      refused = tt;
    }

pub returns-in-Err-books : goal.returns-in-Err-books
returns-in-Err-books g c =
    let disks = g.D.Disk in
    let mode = c.args.header.now.mode in
    let s = c.args.header.now.settings in
    let found = c.in-Ok.hub in
    let hub = c.with_disk-hub.result in
    let made = c.with_disk-hub.ensures in
    let after = c.close-books.new.self in
    let disk' = c.into_parts-runner.result.1 in
    let has = begun_with found.version hub.version mode s found.heading.batch hub.header found.answers hub.recorder.answers made.version made.header made.answers c.in-Ok.ensures.begun.0 in
    let left = left_behind disks c.args.disk c.of_log.new.disk hub.recorder.log.disk c.of_log.ensures.read.left (left_equal disks c.of_log.new.disk hub.recorder.log.disk made.disk) in
    let left' = left_equal disks after.recorder.log.disk disk' c.into_parts-runner.ensures.disk in
    let stay = g.met.D.Disk.seen_may_stay in
    let faithful = subst (λ (d : g.row.D.Denot). HasKeptFaith disks d) c.into_parts-runner.ensures.disk in
    record {
      ok = tt;
      books = tt;
      err = safe_on disks mode s hub after c.args.disk disk' has left left' stay _ c.args.wanted c.in-Err-books.error faithful c.in-Err-books.ensures.err c.close-books.ensures.any_moment;
      refused = λ two. inr (λ clean' good.
          let clean : HasKeptFaith disks after.recorder.log.disk = faithful clean' in
          let clean-found : HasKeptFaith disks c.of_log.new.disk = subst (λ (d : g.row.D.Denot). HasKeptFaith disks d) made.disk (c.close-books.ensures.clean clean) in
          untaken_to_close mode s c.args.wanted (disks.seen c.args.disk) (c.requires.read (c.of_log.ensures.read.clean clean-found)) hub.version hub.header.items
          (λ v lines are begins. rw (made.version, made.header) (c.in-Ok.ensures.found clean-found v lines are begins))
          c.in-Err-books.error (c.told_ending-in-Err-books.ensures two) (rw left.same at (c.in-Err-books.ensures.err.cause clean)) good);
    }

pub returns-in-Err : goal.returns-in-Err
returns-in-Err g c = record {
  ok = tt;
  books = tt;
  err = λ faith. inl (left_as_it_was g.D.Disk c.args.disk c.of_log.new.disk c.of_log.ensures.read.left);
  refused = λ two. inr (λ clean good.
      unfound_to_close c.args.header.now.mode c.args.header.now.settings c.args.wanted (g.D.Disk.seen c.args.disk) (c.requires.read (c.of_log.ensures.read.clean clean)) c.of_log.result c.in-Err.error (c.of_log.ensures.found clean) c.in-Err.is
      (c.told_ending.ensures two) good);
}
