use Rattle.std.proofs.Common.{refl, sym, ◌∙◌}
use Rattle.inst_agenda.proofs.Agendas.{none_due_in_row}
use Rattle.inst_agenda.proofs.agenda.pop_due.Goals as goal

pub returns-then-not-is_due : goal.returns-then-not-is_due
returns-then-not-is_due c = (
  refl,
  none_due_in_row c.args.row.now.items c.in_ok-first.first.now c.args.at c.requires c.in_ok-first.ensures.lookup (sym c.is_due.ensures ∙ c.if-not-is_due.true),
)
