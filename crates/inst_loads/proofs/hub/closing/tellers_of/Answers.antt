use Rattle.inst_loads.proofs.Jobs.{tellers_more}
use Rattle.inst_loads.proofs.hub.closing.tellers_of.Goals as goal

pub loop-job-preserved : goal.loop-job-preserved
loop-job-preserved c =
    let i = c.loop-job.invariant in (
      tt,
      tt,
      tellers_more _ c.loop-job.tellers.items _ _ _ c.in-Some.job i.2 c.in-Some.ensures.steps.0 c.in_ok-push.ensures.items,
    )
