use Rattle.inst_journal.proofs.KeyOnce.{keeps_a_key_once}
use Rattle.inst_journal.proofs.laws.a_key_is_kept_once.Goals as goal

pub returns : goal.returns
returns c = keeps_a_key_once
