use Rattle.std.proofs.Common.{ap, ◌∙◌}
use Rattle.inst_journal.specs.Booked.{booked}
use Rattle.inst_journal.proofs.journal.Journal.booked.Goals as goal

pub returns : goal.returns
returns c = c.booked.ensures ∙ ap (booked c.args.from c.args.id.now) c.events.ensures
