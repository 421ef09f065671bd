use Rattle.inst_journal.proofs.EffectsOfAnOpening.{living_within}
use Rattle.inst_journal.proofs.laws.the_live_have_places.Goals as goal

pub returns : goal.returns
returns c = living_within
