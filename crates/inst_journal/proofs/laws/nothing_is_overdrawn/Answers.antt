use Rattle.inst_journal.proofs.PlacesOfTakenAmounts.{never_overdrawn}
use Rattle.inst_journal.proofs.laws.nothing_is_overdrawn.Goals as goal

pub returns : goal.returns
returns c = never_overdrawn
