use Rattle.inst_ledger.proofs.TableStaysRight.{right_of}
use Rattle.inst_ledger.proofs.laws.a_table_is_right.Goals as goal

pub returns : goal.returns
returns c = right_of
