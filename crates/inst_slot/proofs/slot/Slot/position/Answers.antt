use Rattle.std.proofs.Common.{◌∙◌, ap}
use Rattle.inst_journal.specs.Money.{position}
use Rattle.inst_slot.specs.Book.{Book}
use Rattle.inst_slot.proofs.slot.Slot.position.Goals as goal

pub returns-clause-value : goal.returns-clause-value
returns-clause-value c = c.position.ensures.value ∙ ap (λ (x : Book). position x.events) c.self.view_is
