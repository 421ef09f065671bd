use Rattle.std.proofs.Common.{ℕ, ◌∷◌, ◌≤◌, length, sym, subst, ◌∙◌, ap}
use Rattle.inst_command.specs.declared.reply.Answer.TheVariants.{Reply}
use Rattle.inst_command.specs.declared.step.Step.TheVariants.{Ask}
use Rattle.inst_world.specs.HasRun.{World, world_settings, Runs}
use Rattle.inst_agenda.specs.inner.Naming.{named_by}
use Rattle.inst_agenda.specs.Watching.{Watches}
use Rattle.inst_agenda.specs.inner.Watching.{NotesNamed}
use Rattle.inst_agenda.specs.declared.runner.Runner.{Runner}
use Rattle.inst_agenda.proofs.AgendaAfterAsk.{watches_ask, watches_quiet}
use Rattle.inst_agenda.proofs.runner.Runner.ask.Goals as goal
use Rattle.inst_agenda.proofs.runner.Runner.ask.Goals.{then-events+in_ok-note_named, else-events}

pub returns-clause-ok : goal.returns-clause-ok
returns-clause-ok c = elim c.if-events.branch [
  | then-events+in_ok-note_named w ↦
      let old = c.args.self.now in
      let noted = w.note_named.new.self in
      let same = w.in_ok-note_named.ensures.world in
      let known = watches_ask old.world noted.world old.agenda noted.agenda c.args.ask.now (Reply c.in_ok-reply.reply)
      (subst (λ (h : World). Runs old.world (Ask c.args.ask.now) (Reply c.in_ok-reply.reply) h) (sym same) c.in_ok-reply.ensures.ok)
      (ap world_settings same ∙ c.ask.ensures.settings)
      (subst (λ (h : World). NotesNamed h (named_by c.args.ask.now.who c.args.ask.now.command) old.agenda noted.agenda) (sym same) w.in_ok-note_named.ensures.notes) in
      λ O L watches. ((known O L watches).0, subst (λ (r : Runner). Watches O (Ask c.args.ask.now ∷ L) r.world r.agenda) (sym w.self-is) (known O L watches).1)
  | else-events w ↦
      let old = c.args.self.now in
      let known = watches_quiet old.world c.ask.new.self old.agenda c.args.ask.now (Reply c.in_ok-reply.reply) (length c.events-events.result.now)
      c.in_ok-reply.ensures.ok c.ask.ensures.settings
      (λ O L ran. ap length (sym (c.events-events.ensures ∙ c.journal.ensures.history O L ran)))
      (λ O L ran. subst (λ (n : ℕ). n ≤ length c.events-events.result.now) (ap length (c.events.ensures ∙ c.journal-2.ensures.history O L ran)) w.if-events.false) in
      λ O L watches. ((known O L watches).0, subst (λ (r : Runner). Watches O (Ask c.args.ask.now ∷ L) r.world r.agenda) (sym w.self-is) (known O L watches).1)
]
