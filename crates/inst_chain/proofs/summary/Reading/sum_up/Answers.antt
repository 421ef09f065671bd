use Rattle.inst_chain.proofs.SummaryOfLines.{summed}
use Rattle.inst_chain.proofs.summary.Reading.sum_up.Goals as goal

pub returns-in-Some-clause-found : goal.returns-in-Some-clause-found
returns-in-Some-clause-found c = λ file h.
    summed file c.args.self h c.is_shut.result c.is_shut.ensures c.chain-chain.result c.chain-chain.ensures c.in-Some.first c.into_seen-first.result c.into_seen-first.ensures c.in-Some.is
