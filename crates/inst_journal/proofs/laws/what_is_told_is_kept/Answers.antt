use Rattle.inst_journal.proofs.ToldExactlyWhereKept.{told_where_kept}
use Rattle.inst_journal.proofs.laws.what_is_told_is_kept.Goals as goal

pub returns : goal.returns
returns c = told_where_kept
