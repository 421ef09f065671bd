use Rattle.std.proofs.Common.{sym, ◌∙◌}
use Rattle.std.proofs.lemmas.Result.{on_ok_weaker}
use Rattle.inst_agenda.specs.inner.Naming.{named_by}
use Rattle.inst_agenda.proofs.AgendaAfterAsk.{named_some}
use Rattle.inst_agenda.proofs.runner.Runner.note_named.Goals as goal

pub returns-in-Some-clause-notes : goal.returns-in-Some-clause-notes
returns-in-Some-clause-notes c =
    let ask = c.args.ask.now in
    on_ok_weaker c.note.result (λ notes.
    named_some c.args.self.now.world (named_by ask.who ask.command) c.args.self.now.agenda c.note.new.self c.in-Some.place c.in-Some.ensures.participant notes
    (λ O L was p k x there named. sym c.in-Some.is ∙ c.place_named.ensures.place O L was p k x there named)) c.note.ensures.ok
