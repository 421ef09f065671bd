use Rattle.inst_journal.proofs.KeptEventsFit.{history_after_sound}
use Rattle.inst_journal.proofs.laws.what_is_kept_fits.Goals as goal

pub returns : goal.returns
returns c = history_after_sound
