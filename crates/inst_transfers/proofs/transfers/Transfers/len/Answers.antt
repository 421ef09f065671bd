use Rattle.std.proofs.Common.{subst}
use Rattle.inst_transfers.specs.Held.{Held, AreApart, rows_in}
use Rattle.inst_transfers.proofs.Rows.{rows_apart}
use Rattle.inst_transfers.proofs.transfers.Transfers.len.Goals as goal

pub returns-clause-apart : goal.returns-clause-apart
returns-clause-apart c = subst (λ (h : Held). AreApart (rows_in h.entries)) c.self.view_is (rows_apart c.self.inside.table.entries c.len.ensures.unique)
