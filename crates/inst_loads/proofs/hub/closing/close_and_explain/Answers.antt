use Rattle.inst_loads.proofs.Jobs.{all_of_jobs}
use Rattle.inst_loads.proofs.hub.closing.close_and_explain.Goals as goal

pub close-requires-clause-of : goal.close-requires-clause-of
close-requires-clause-of c =
    let r = c.requires in (all_of_jobs c.args.hub c.args.teller c.args.jobs.items c.in_ok-tellers.tellers.items r.of.0 r.of.1 r.parts c.in_ok-tellers.ensures).0

pub close-requires-clause-parts : goal.close-requires-clause-parts
close-requires-clause-parts c =
    let r = c.requires in (all_of_jobs c.args.hub c.args.teller c.args.jobs.items c.in_ok-tellers.tellers.items r.of.0 r.of.1 r.parts c.in_ok-tellers.ensures).1
