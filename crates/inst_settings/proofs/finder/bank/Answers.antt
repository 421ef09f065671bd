use Rattle.std.proofs.Common.{arith}
use Rattle.std.proofs.lemmas.Grind.{common_steps}
use Rattle.inst_settings.specs.Finder.{bank_of}
use Rattle.inst_settings.proofs.finder.bank.Goals as goal

pub returns : goal.returns
unfolding bank_of
returns c = grind (arith, common_steps)
