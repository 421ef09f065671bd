use Rattle.std.proofs.Common.{arith}
use Rattle.inst_loads.proofs.Jobs.{one_sees}
use Rattle.inst_loads.proofs.stress.meeting.agree.Goals as goal

pub returns-then-not-sees_all_so : goal.returns-then-not-sees_all_so
returns-then-not-sees_all_so c = λ hub are.
    one_sees c.args.jobs.now c.loop-job.jobs c.loop-job.job-index c.job-item.result c.sees_all_so.new.teller (omega (arith, c.loop-job-test.true, c.loop-job.auto.jobs)) c.loop-job.invariant c.sees_all_so.ensures hub are

pub loop-job-preserved : goal.loop-job-preserved
loop-job-preserved c = λ hub are.
    one_sees c.args.jobs.now c.loop-job.jobs c.loop-job.job-index c.job-item.result c.sees_all_so.new.teller (omega (arith, c.loop-job-test.true, c.loop-job.auto.jobs)) c.loop-job.invariant c.sees_all_so.ensures hub are
