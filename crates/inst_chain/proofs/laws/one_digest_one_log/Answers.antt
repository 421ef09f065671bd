use Rattle.inst_chain.proofs.Chains.{one_log}
use Rattle.inst_chain.proofs.laws.one_digest_one_log.Goals as goal

pub returns : goal.returns
returns c = λ a b mark old new late later. one_log a b mark old new late later
