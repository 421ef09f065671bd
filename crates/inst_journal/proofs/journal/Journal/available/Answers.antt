use Rattle.std.proofs.Common.{ap, ◌∙◌}
use Rattle.inst_journal.specs.Money.{available}
use Rattle.inst_journal.proofs.journal.Journal.available.Goals as goal

pub returns : goal.returns
returns c = c.available.ensures ∙ ap available c.events.ensures
