use Rattle.std.proofs.Common.{arith, rules}
use Rattle.std.proofs.lemmas.Grind.{common_steps}
use Rattle.inst_settings.specs.Finder.{branch_of}
use Rattle.inst_settings.proofs.finder.branch.Goals as goal

pub returns : goal.returns
unfolding branch_of
returns c = grind (arith, common_steps)

pub returns-then-text-lt-BRANCH_CODE_LENGTH : goal.returns-then-text-lt-BRANCH_CODE_LENGTH
unfolding branch_of
returns-then-text-lt-BRANCH_CODE_LENGTH c = search rules
