use Rattle.std.proofs.Common.{ap, ◌∙◌}
use Rattle.inst_transfers.specs.State.{outcome_in}
use Rattle.inst_ledger.proofs.ledger.Ledger.booked.Goals as goal

pub returns : goal.returns
returns c = c.outcome_in.ensures ∙ ap outcome_in c.transfer.ensures.found ∙ c.transfer.ensures.right.booked (c.args.from, c.args.id.now)
