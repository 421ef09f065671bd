use Rattle.std.proofs.Common.{arith, [], ◌∷◌, ◌++◌}
use Rattle.std.proofs.lemmas.List.{nil_from_length}
use Rattle.std.specs.Vec.Iter.{into_iter_items}
use Rattle.inst_loads.proofs.DoneJobs.{done_more, gathered, jobs_more}
use Rattle.inst_loads.proofs.hub.done.gather.Goals as goal

pub loop-result-preserved : goal.loop-result-preserved
loop-result-preserved g c =
    let i = c.loop-result.invariant in let is = c.in-Some.ensures.steps.0 in
    let d = c.in_ok-job.field-0 in (
      tt,
      tt,
      (i.2.0 ++ d ∷ [], done_more i.2.0 d c.in-Some.result c.args.results.items (into_iter_items c.loop-result.result-iterator) (into_iter_items c.next.new.self) i.2.1 is c.in_ok-job.was, jobs_more i.2.0 d _ _ i.2.2 c.in_ok-push.ensures.items),
    )

pub returns : goal.returns
returns g c = λ hub jobs done.
    let i = c.loop-result.invariant in
    let none = nil_from_length (into_iter_items c.loop-result.result-iterator) (omega (arith, c.loop-result.result-iterator.rest.ok, c.in-None.ensures.steps.0)) in
    gathered hub jobs c.loop-result.jobs.items i.2.0 c.args.results.items (into_iter_items c.loop-result.result-iterator) i.2.1 none i.2.2 done
