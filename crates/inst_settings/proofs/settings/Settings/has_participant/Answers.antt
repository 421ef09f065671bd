use Rattle.std.proofs.Common.{rules}
use Rattle.inst_settings.proofs.settings.Settings.has_participant.Goals as goal

pub returns : goal.returns
returns c = search rules
