use Rattle.std.proofs.Common.{◌≡◌, ◌∙◌, sym, ap, subst, arith}
use Rattle.inst_settings.specs.Settings.{participants}
use Rattle.inst_world.specs.HasRun.{World}
use Rattle.inst_agenda.specs.Watching.{Watches}
use Rattle.inst_agenda.proofs.PlacesToGoOverNext.{NotedAll, noted_owner_more, watches_noted}
use Rattle.inst_agenda.proofs.runner.Runner.new.Goals as goal

pub loop-owner-preserved : goal.loop-owner-preserved
loop-owner-preserved c =
    let owner = c.loop-owner.owner in
    let before = c.loop-owner.invariant in
    let after = c.note_all.new.self.agenda in
    let noted = c.in_ok-note_all.ensures in
    record {
      world = noted.world ∙ before.world;
      noted = noted_owner_more c.args.world c.loop-owner.runner.agenda after owner before.noted noted.notes
          (subst (λ (hub : World). NotedAll hub after owner) before.world noted.noted);
    }

pub returns-clause-ok : goal.returns-clause-ok
returns-clause-ok c = λ O L was.
    let before = c.loop-owner.invariant in
    let all : participants c.args.world.board.settings ≡ c.loop-owner.owner =
    ap participants (sym c.settings.ensures) ∙ (let value = c.participants-owner-end.ensures.value in let past = c.loop-owner-test.false in let within = c.loop-owner.auto.owner-end in omega (arith, value, past, within)) in
    subst (λ (hub : World). Watches O L hub c.loop-owner.runner.agenda) (sym before.world)
    (watches_noted c.args.world c.loop-owner.runner.agenda c.loop-owner.owner all before.noted O L was)
