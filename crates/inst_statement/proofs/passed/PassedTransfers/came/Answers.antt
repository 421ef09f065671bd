use Rattle.std.proofs.Common.{◌∙◌}
use Rattle.inst_statement.proofs.passed.PassedTransfers.came.Goals as goal

pub returns : goal.returns
returns c = λ front kept. c.copied.ensures ∙ c.get.ensures.value ∙ kept.came_amount (c.args.from, c.args.id.now)
