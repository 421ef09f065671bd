use Rattle.std.proofs.Common.{sym, subst, List}
use Rattle.std.specs.Vec.Iter.{into_iter_items}
use Rattle.inst_loads.specs.declared.hub.job.HubJob.{HubJob}
use Rattle.inst_loads.specs.Jobs.{AreJobsOf}
use Rattle.inst_loads.proofs.Jobs.{next_left, next_is_of, one_job, more_parts}
use Rattle.inst_loads.proofs.hub.job.jobs.Goals as goal

pub loop-teller-preserved : goal.loop-teller-preserved
loop-teller-preserved c =
    let i = c.loop-teller.invariant in
    let rest = into_iter_items c.loop-teller.teller-iterator in
    let after = into_iter_items c.next.new.self in
    let is = c.in-Some.ensures.steps.0 in
    let one = next_is_of c.args.hub.now c.loop-teller.yielded rest after c.args.tellers.items c.in-Some.teller c.requires i.2 is in (
      tt,
      tt,
      next_left c.loop-teller.yielded rest after c.args.tellers.items c.in-Some.teller i.2 is,
      subst (λ (l : List HubJob). AreJobsOf c.args.hub.now l) (sym {A = List HubJob} c.in_ok-push.ensures.items)
          (one_job c.args.hub.now c.loop-teller.jobs.items record { teller = c.in-Some.teller; thread = c.loop-teller.thread } i.3 one),
      more_parts c.loop-teller.jobs.items _ record { teller = c.in-Some.teller; thread = c.loop-teller.thread } rest after _ i.4 c.in_ok-push.ensures.items is,
    )
