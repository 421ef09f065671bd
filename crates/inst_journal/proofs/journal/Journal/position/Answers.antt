use Rattle.std.proofs.Common.{ap, ◌∙◌}
use Rattle.inst_journal.specs.Money.{position}
use Rattle.inst_journal.proofs.journal.Journal.position.Goals as goal

pub returns : goal.returns
returns c = c.position.ensures.value ∙ ap position c.events.ensures
