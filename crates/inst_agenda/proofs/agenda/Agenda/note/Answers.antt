use Rattle.std.proofs.Common.{◌++◌, subst}
use Rattle.inst_agenda.specs.Agenda.{Agenda}
use Rattle.inst_agenda.specs.inner.Agenda.{Notes}
use Rattle.inst_agenda.proofs.Agendas.{notes}
use Rattle.inst_agenda.proofs.agenda.Agenda.note.Goals as goal

pub returns : goal.returns
returns c =
    record {
      ok = subst (λ (old : Agenda). Notes old (record { waiting = c.self.inside.row.items ++ c.self.inside.others.keys; next = c.insert.new.self.keys }) c.args.place) c.self.view_is
          (notes (c.self.inside.row.items ++ c.self.inside.others.keys) c.self.inside.next c.insert.new.self c.args.place c.in_ok-insert.ensures.updates);
    }
