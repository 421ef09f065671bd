use Rattle.std.proofs.Common.{is_some, sym, ap, ◌∙◌}
use Rattle.inst_ledger.proofs.ForwardedTransfers.{forwarded_found}
use Rattle.inst_ledger.proofs.ledger.Ledger.is_forwarded.Goals as goal

pub returns : goal.returns
returns c = c.is_some.ensures ∙ ap is_some c.forwarding.ensures ∙ sym (forwarded_found (c.args.from, c.args.id.now) c.args.self.now.book.events)
