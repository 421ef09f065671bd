use Rattle.std.proofs.Common.{ap, ◌∙◌}
use Rattle.inst_ledger.specs.Right.{forwarding_in}
use Rattle.inst_ledger.proofs.ledger.Ledger.forwarding.Goals as goal

pub returns : goal.returns
returns c = c.forwarding_in.ensures ∙ ap forwarding_in c.transfer.ensures.found ∙ c.transfer.ensures.right.forwarded (c.args.from, c.args.id.now)
