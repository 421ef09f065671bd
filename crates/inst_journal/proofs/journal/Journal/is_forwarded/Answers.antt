use Rattle.std.proofs.Common.{ap, ◌∙◌}
use Rattle.inst_journal.specs.Booked.{is_forwarded}
use Rattle.inst_journal.proofs.journal.Journal.is_forwarded.Goals as goal

pub returns : goal.returns
returns c = c.is_forwarded.ensures ∙ ap (is_forwarded c.args.from c.args.id.now) c.events.ensures
