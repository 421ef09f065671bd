use Rattle.std.proofs.Common.{None, Some, sym, ◌∙◌}
use Rattle.inst_ledger.proofs.Beneficiary.{beneficiary_found}
use Rattle.inst_ledger.proofs.ledger.Ledger.beneficiary_of.Goals as goal

pub returns-in_err-sending : goal.returns-in_err-sending
returns-in_err-sending c = c.from_residual.ensures ∙ beneficiary_found c.args.id.now c.args.self.now.book.events None (sym c.sending.ensures ∙ c.in_err-sending.was)

pub returns : goal.returns
returns c = beneficiary_found c.args.id.now c.args.self.now.book.events (Some c.in_ok-sending.sending) (sym c.sending.ensures ∙ c.in_ok-sending.was)
