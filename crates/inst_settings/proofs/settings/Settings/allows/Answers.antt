use Rattle.std.proofs.Common.{rules}
use Rattle.inst_settings.proofs.settings.Settings.allows.Goals as goal

pub returns-clause-value : goal.returns-clause-value
returns-clause-value c = search rules
