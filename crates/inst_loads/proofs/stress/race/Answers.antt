use Rattle.std.proofs.Common.{◌∙◌, List, ap, arith, drop, length, subst, sym}
use Rattle.inst_loads.specs.declared.hub.job.HubJob.{HubJob}
use Rattle.inst_loads.specs.Jobs.{AreStill, IsStill, parts_of_jobs}
use Rattle.inst_loads.proofs.Jobs.{take_front}
use Rattle.inst_loads.proofs.stress.race.Goals as goal

pub returns : goal.returns
returns g c =
    let h = c.args.hub.now in
    let started = c.in_ok-jobs.ensures in
    let ended = c.end.ensures in
    let left : List HubJob = c.end.new.jobs in
    let whole = take_front c.in_ok-jobs.jobs.len left (drop (length left) c.in_ok-jobs.jobs.items) (omega (arith, c.end.auto.jobs, c.in_ok-jobs.jobs.ok)) in
    subst (λ (jobs : List HubJob). IsStill h c.args.teller.now c.check.new.teller × AreStill h c.args.jobs.items jobs) (sym whole)
    ((c.check.ensures.0, c.check.ensures.1 ∙ (ended.0.1 ∙ c.fund_all.ensures.1)), (ended.1.0, ended.1.1 ∙ (ap parts_of_jobs c.deref_mut.ensures.value ∙ started.1)))
