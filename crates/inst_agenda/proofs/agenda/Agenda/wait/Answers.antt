use Rattle.std.proofs.Common.{◌++◌, subst}
use Rattle.inst_agenda.specs.Agenda.{Agenda}
use Rattle.inst_agenda.specs.inner.Agenda.{Waits}
use Rattle.inst_agenda.proofs.Agendas.{makes_wait}
use Rattle.inst_agenda.proofs.agenda.Agenda.wait.Goals as goal

pub returns-in_ok-insert : goal.returns-in_ok-insert
returns-in_ok-insert c =
    let row = c.self.inside.row.items in
    record {
      ok = subst (λ (old : Agenda). Waits old (record { waiting = row ++ c.insert.new.self.keys; next = c.self.inside.next.keys }) c.args.moment c.args.place) c.self.view_is
          (makes_wait c.self.inside.next.keys row c.self.inside.others c.insert.new.self c.args.moment c.args.place c.in_ok-insert.ensures.updates);
    }
