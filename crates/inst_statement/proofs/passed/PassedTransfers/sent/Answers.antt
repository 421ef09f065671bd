use Rattle.std.proofs.Common.{◌∙◌}
use Rattle.inst_statement.proofs.passed.PassedTransfers.sent.Goals as goal

pub returns : goal.returns
returns c = λ front kept. c.copied.ensures ∙ c.get.ensures.value ∙ kept.sent_terms (c.args.id.now)
