use Rattle.std.proofs.Common.{◌++◌, subst}
use Rattle.inst_command.specs.declared.place.Place.{Place}
use Rattle.inst_agenda.specs.Agenda.{Agenda}
use Rattle.inst_agenda.specs.inner.Agenda.{TakesNext}
use Rattle.inst_agenda.proofs.Agendas.{takes_next}
use Rattle.inst_agenda.proofs.agenda.Agenda.take_next.Goals as goal

pub returns : goal.returns
returns c =
    let place : Place = record { owner = c.in_ok-owner.owner; index = c.in_ok-owner.index } in
    subst (λ (old : Agenda). TakesNext old (record { waiting = c.self.inside.row.items ++ c.self.inside.others.keys; next = c.pop_first.new.self.keys }) place) c.self.view_is
    (takes_next (c.self.inside.row.items ++ c.self.inside.others.keys) c.self.inside.next c.pop_first.new.self place c.in_ok-owner.ensures.removal c.in_ok-owner.ensures.all_above)
