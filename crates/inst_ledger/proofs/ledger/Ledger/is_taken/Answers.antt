use Rattle.std.proofs.Common.{is_some, sym, ap, ◌∙◌}
use Rattle.inst_ledger.proofs.Tables.{taken_found}
use Rattle.inst_ledger.proofs.ledger.Ledger.is_taken.Goals as goal

pub returns : goal.returns
returns c = c.is_some.ensures ∙ ap is_some c.sending.ensures ∙ sym (taken_found c.args.id.now c.args.self.now.book.events)
