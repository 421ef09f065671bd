use Rattle.std.proofs.Common.{is_some, sym, ap, ◌∙◌}
use Rattle.inst_ledger.proofs.FundingsByReference.{reference_found}
use Rattle.inst_ledger.proofs.ledger.Ledger.has_reference.Goals as goal

pub returns : goal.returns
returns c = c.is_some.ensures ∙ ap is_some c.funding.ensures ∙ sym (reference_found c.args.reference.now c.args.self.now.book.events)
