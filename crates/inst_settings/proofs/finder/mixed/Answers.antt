use Rattle.std.proofs.Common.{rules}
use Rattle.inst_settings.specs.Finder.{mixed}
use Rattle.inst_settings.proofs.finder.mixed.Goals as goal

pub returns-clause-value : goal.returns-clause-value
unfolding mixed
returns-clause-value c = search rules
