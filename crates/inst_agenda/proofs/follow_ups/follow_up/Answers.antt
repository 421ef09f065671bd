use Rattle.std.proofs.Common.{refl, sym, ◌∙◌, subst}
use Rattle.inst_agenda.specs.Agenda.{Agenda}
use Rattle.inst_agenda.specs.FollowUps.{followed_up}
use Rattle.inst_agenda.specs.Watching.{Watches}
use Rattle.inst_agenda.proofs.SkippedPlacesAreAtRest.{going_at_first, goes_on, skips_to_the_end}
use Rattle.inst_agenda.proofs.follow_ups.follow_up.Goals as goal

pub loop-place-init : goal.loop-place-init
loop-place-init c =
    let world = c.args.runner.now.world in
    record {
      settings = refl;
      going = λ O L w. going_at_first world.board.settings O L c.args.at world c.args.runner.now.agenda c.move_due.new.self refl c.in_ok-move_due.ensures.ok.0 c.in_ok-move_due.ensures.ok.1 w;
    }

pub loop-place-preserved : goal.loop-place-preserved
loop-place-preserved c =
    let s = c.args.runner.now.world.board.settings in
    record {
      settings = c.go_over.ensures.settings ∙ c.loop-place.invariant.settings;
      going = λ O L w.
          goes_on s O L c.args.at c.loop-place.runner.world c.go_over.new.runner.world c.loop-place.runner.agenda c.take_next.new.self c.go_over.new.runner.agenda c.in-Some.place
          c.in-Some.ensures c.go_over.ensures.settings c.in_ok-go_over.ensures.next (λ M ran. c.in_ok-go_over.ensures.ok O M ran) (c.loop-place.invariant.going O L w);
    }

pub returns-clause-ok : goal.returns-clause-ok
returns-clause-ok c = λ O L w.
    let s = c.args.runner.now.world.board.settings in
    subst (λ (a : Agenda). Watches O (followed_up s O L c.args.at) c.loop-place.runner.world a) (sym c.in_default.ensures.0)
    (skips_to_the_end s O L c.args.at c.loop-place.runner.world c.loop-place.runner.agenda c.in_default.ensures.1 (c.loop-place.invariant.going O L w))
