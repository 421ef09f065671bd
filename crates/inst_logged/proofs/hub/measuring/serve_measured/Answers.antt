use Rattle.std.proofs.Common.{[], refl, ◌∙◌}
use Rattle.std.proofs.lemmas.Result.{err_from_is_err_and}
use Rattle.inst_log.specs.Layout.{recovered_lines}
use Rattle.inst_logged.specs.Answering.{SaysLines}
use Rattle.inst_logged.proofs.BatchThatIsAnswered.{keeps_unwritten, keeps_behind, keeps_read, gained_measured}
use Rattle.inst_logged.proofs.FailuresOfLoggedHub.{unrefused_fails, fails_so, more_faults, no_room_now, unanswered_fails, unanswered_unrefused}
use Rattle.inst_logged.proofs.hub.measuring.serve_measured.Goals as goal

pub returns-in_err-len-clause-any_moment : goal.returns-in_err-len-clause-any_moment
returns-in_err-len-clause-any_moment g c =
    let a = c.args.recorder.now.answers in
    keeps_unwritten g.D.Disk (SaysLines a.mode a.runner) (recovered_lines c.args.batch.now.items) c.args.recorder.now.log c.len.new.self _ (λ f said. said.are []) c.requires.measured.is_open
    (record { left = record { same = c.len.ensures.seen; crash = c.len.ensures.crash }; usable = c.len.ensures.usable; clean = c.len.ensures.clean })

pub returns-in_err-serve_lines-clause-any_moment : goal.returns-in_err-serve_lines-clause-any_moment
returns-in_err-serve_lines-clause-any_moment g c =
    let a = c.args.recorder.now.answers in
    keeps_behind g.D.Disk (SaysLines a.mode a.runner) (recovered_lines c.args.batch.now.items) c.args.recorder.now.log.disk c.len.new.self c.serve_lines.new.self.log.disk _ _
    (record { left = record { same = c.len.ensures.seen; crash = c.len.ensures.crash }; usable = c.len.ensures.usable; clean = c.len.ensures.clean })
    c.serve_lines.ensures.any_moment c.serve_lines.ensures.stands

pub returns-in_err-size-clause-any_moment : goal.returns-in_err-size-clause-any_moment
returns-in_err-size-clause-any_moment g c =
    let a = c.args.recorder.now.answers in
    keeps_read g.D.Disk (SaysLines a.mode a.runner) (recovered_lines c.args.batch.now.items) c.args.recorder.now.log.disk c.serve_lines.new.self.log.disk c.measure.new.log.disk _ _ c.measure.ensures.read.0
    (keeps_behind g.D.Disk (SaysLines a.mode a.runner) (recovered_lines c.args.batch.now.items) c.args.recorder.now.log.disk c.len.new.self c.serve_lines.new.self.log.disk _ _
    (record { left = record { same = c.len.ensures.seen; crash = c.len.ensures.crash }; usable = c.len.ensures.usable; clean = c.len.ensures.clean })
    c.serve_lines.ensures.any_moment c.serve_lines.ensures.stands)

pub returns-clause-any_moment : goal.returns-clause-any_moment
returns-clause-any_moment g c =
    let a = c.args.recorder.now.answers in
    keeps_read g.D.Disk (SaysLines a.mode a.runner) (recovered_lines c.args.batch.now.items) c.args.recorder.now.log.disk c.serve_lines.new.self.log.disk c.measure.new.log.disk _ _ c.measure.ensures.read.0
    (keeps_behind g.D.Disk (SaysLines a.mode a.runner) (recovered_lines c.args.batch.now.items) c.args.recorder.now.log.disk c.len.new.self c.serve_lines.new.self.log.disk _ _
    (record { left = record { same = c.len.ensures.seen; crash = c.len.ensures.crash }; usable = c.len.ensures.usable; clean = c.len.ensures.clean })
    c.serve_lines.ensures.any_moment c.serve_lines.ensures.stands)

pub returns-clause-ok : goal.returns-clause-ok
returns-clause-ok g c =
    let served = c.in_ok-serve_lines.ensures.ok in
    record {
      gained = gained_measured g.D.Disk (recovered_lines c.args.batch.now.items) c.args.recorder.now.log (record c.args.recorder.now.log { disk = c.len.new.self }) c.serve_lines.new.self.log c.measure.new.log c.len.ensures.seen refl c.in_ok-len.ensures.faults
          served.gained c.measure.ensures.read.0 c.measure.ensures.read.1 c.in_ok-size.ensures.failure.failure;
      replied = served.replied;
      on = served.on;
    }

pub returns-clause-measured : goal.returns-clause-measured
returns-clause-measured g c =
    let served = c.in_ok-serve_lines.ensures.ok in
    let gained = gained_measured g.D.Disk (recovered_lines c.args.batch.now.items) c.args.recorder.now.log (record c.args.recorder.now.log { disk = c.len.new.self }) c.serve_lines.new.self.log c.measure.new.log c.len.ensures.seen refl c.in_ok-len.ensures.faults
    served.gained c.measure.ensures.read.0 c.measure.ensures.read.1 c.in_ok-size.ensures.failure.failure in
    record {
      is_open = record { usable = gained.log.usable; settled = λ clean. (gained.log.settled clean).0 };
      size_is = c.in_ok-size.ensures.size;
    }

pub returns-in_err-len-clause-failure : goal.returns-in_err-len-clause-failure
returns-in_err-len-clause-failure g c =
    unrefused_fails g.D.Disk c.args.recorder.now.log.disk c.len.new.self _ _ c.from_residual.result _ (err_from_is_err_and c.from_residual.result c.from_residual.ensures.1) (λ no. no) (λ clean. ((λ is. cc is), c.in_err-len.ensures.faults.0))

pub returns-in_err-serve_lines-clause-failure : goal.returns-in_err-serve_lines-clause-failure
returns-in_err-serve_lines-clause-failure g c =
    let file = g.D.Disk.seen c.args.recorder.now.log.disk in
    let new = c.serve_lines.new.self.log.disk in
    unrefused_fails g.D.Disk c.args.recorder.now.log.disk new _ _ c.from_residual-in_err-serve_lines.result _ (err_from_is_err_and c.from_residual-in_err-serve_lines.result c.from_residual-in_err-serve_lines.ensures.1)
    (unanswered_unrefused _ _ _ c.in_err-serve_lines.field-0.0 c.in_err-serve_lines.ensures.cause)
    (λ clean. unanswered_fails _ _ _ _ _ _ c.in_err-serve_lines.field-0.0 (λ failed. more_faults _ _ _ c.in_ok-len.ensures.faults failed)
    (λ full. no_room_now file (g.D.Disk.seen new) (recovered_lines c.args.batch.now.items) _ c.args.recorder.now.log.end
    (c.requires.measured.is_open.settled (c.len.ensures.clean (rw c.serve_lines.ensures.stands.clean at clean))).closed.ends full
    (rw c.len.ensures.seen at (c.serve_lines.ensures.stands.lines clean (g.D.Disk.seen new) (g.met.D.Disk.seen_may_stay new))))
    (λ rest. (rest clean).0) c.in_err-serve_lines.ensures.cause)

pub returns-in_err-size-clause-failure : goal.returns-in_err-size-clause-failure
returns-in_err-size-clause-failure g c =
    unrefused_fails g.D.Disk c.args.recorder.now.log.disk c.measure.new.log.disk _ _ c.from_residual-in_err-size.result _ (err_from_is_err_and c.from_residual-in_err-size.result c.from_residual-in_err-size.ensures.1)
    c.in_err-size.ensures.failure.unrefused
    (λ clean. fails_so _ _ _ _ _ _ c.in_err-size.field-0.0 (λ failed. more_faults _ _ _ (c.in_ok-serve_lines.ensures.ok.gained.log.calm ∙ c.in_ok-len.ensures.faults) failed) (λ no. absurd no) (λ no. absurd no) (c.in_err-size.ensures.failure.failure clean))
