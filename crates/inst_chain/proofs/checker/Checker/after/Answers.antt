use Rattle.std.proofs.Common.{refl}
use Rattle.inst_chain.proofs.ProgressOfChecker.{sealed_stands}
use Rattle.inst_chain.proofs.checker.Checker.after.Goals as goal

pub returns : goal.returns
returns c = sealed_stands _ c.args.log.now c.args.marker.now c.requires c.in_ok-clone.ensures.cases refl refl c.of-all.ensures
