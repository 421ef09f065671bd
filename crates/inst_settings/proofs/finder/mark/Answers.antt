use Rattle.std.proofs.Common.{rules}
use Rattle.inst_settings.specs.Finder.{mark_of}
use Rattle.inst_settings.proofs.finder.mark.Goals as goal

pub returns-clause-value : goal.returns-clause-value
unfolding mark_of
returns-clause-value c = search rules
