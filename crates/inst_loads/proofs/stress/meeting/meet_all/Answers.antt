use Rattle.std.proofs.Common.{◌∙◌, arith}
use Rattle.inst_loads.proofs.Jobs.{one_still}
use Rattle.inst_loads.proofs.stress.meeting.meet_all.Goals as goal

pub loop-job-preserved : goal.loop-job-preserved
loop-job-preserved c =
    let i = c.loop-job.invariant in
    let m = c.meet.ensures in (
      one_still c.args.hub.now c.args.jobs.now c.loop-job.jobs c.loop-job.job-index c.job-item.result c.meet.new.two (omega (arith, c.loop-job-test.true, c.loop-job.auto.jobs)) i.0 (m.of.1, m.knows.1.parts),
      (m.of.0, m.knows.0.parts ∙ i.1.1),
    )
