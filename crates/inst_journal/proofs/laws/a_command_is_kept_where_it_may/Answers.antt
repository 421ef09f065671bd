use Rattle.inst_journal.proofs.WhereCommandsAreKept.{kept_where_it_may}
use Rattle.inst_journal.proofs.laws.a_command_is_kept_where_it_may.Goals as goal

pub returns : goal.returns
returns c = kept_where_it_may
