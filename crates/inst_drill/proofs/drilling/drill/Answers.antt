use Rattle.std.proofs.Common.{◌≤◌, arith}
use Rattle.inst_drill.specs.Drilled.{IsDrilled, drill_opening}
use Rattle.inst_drill.specs.inner.Chain.{opening_of}
use Rattle.inst_drill.proofs.CountOfOpenings.{after_next}
use Rattle.inst_drill.proofs.DrilledOpenings.{none_drilled, one_drilled}
use Rattle.inst_drill.proofs.drilling.drill.Goals as goal

pub loop-done-init : goal.loop-done-init
loop-done-init g c = none_drilled c.args.request.now.settings _ _

pub run_opening-requires-clause-before : goal.run_opening-requires-clause-before
run_opening-requires-clause-before g c κs within =
    let few : c.loop-done.done ≤ 10 = (let below = c.loop-done-test.true in let most = c.in_ok-plan.ensures.may.most_openings in omega (arith, below, most)) in
    (c.loop-done.done, few, c.loop-done.invariant.after)

pub loop-done-preserved : goal.loop-done-preserved
loop-done-preserved g c =
    let s = c.args.request.now.settings in
    let n = c.loop-done.done in
    let books = c.loop-done.books in
    let left = c.in_ok-report.left in
    let is : IsDrilled s (drill_opening (opening_of books) left.books left.steps.items c.in_ok-report.report) = c.in_ok-report.ensures.drilled in
    one_drilled s _ _ _ n books _ left.books left.steps.items c.if_first-steps.result.items c.in_ok-report.report c.loop-done.invariant is c.in_ok-tell.ensures.ok
    (after_next s n books left.books c.loop-done.invariant.after is.settings is.opened)
    (λ none. c.if_first-steps.ensures.first (omega (arith, none)))
    (λ some. c.if_first-steps.ensures.later (λ one. some (omega (arith, one))))
