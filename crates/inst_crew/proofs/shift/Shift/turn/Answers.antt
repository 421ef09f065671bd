use Rattle.std.proofs.Common.{rules, ◌≡◌, true, false, refl}
use Rattle.inst_command.specs.Ask.{ask_fits}
use Rattle.inst_crew.proofs.OneMoreTakenJob.{works_serves, works_passes}
use Rattle.inst_crew.proofs.shift.Shift.turn.Goals as goal

pub returns-in_ok-serve-clause-works : goal.returns-in_ok-serve-clause-works
returns-in_ok-serve-clause-works g c = λ w works.
    let fits : ask_fits c.args.place.now.hub.now.settings c.in-Some.job.ask ≡ true = search rules in
    works_serves _ _ w _ _ c.take.new.hand c.in-Some.job works
    record { of = c.take.ensures.of; same = c.take.ensures.same; put = c.in-Some.ensures.taken.put; taken = c.in-Some.ensures.taken.taken }
    c.serve.ensures.hand fits c.serve.ensures.of c.serve.ensures.knows c.in_ok-serve.ensures.answered c.in_ok-serve.ensures.seen c.in_ok-serve.ensures.served

pub returns-else-fits-clause-works : goal.returns-else-fits-clause-works
returns-else-fits-clause-works g c = λ w works.
    let misfit : ask_fits c.args.place.now.hub.now.settings c.in-Some.job.ask ≡ false = search rules in
    works_passes _ _ w _ _ c.take.new.hand c.in-Some.job works
    record { of = c.take.ensures.of; same = c.take.ensures.same; put = c.in-Some.ensures.taken.put; taken = c.in-Some.ensures.taken.taken }
    refl misfit refl refl refl
