use Rattle.std.proofs.Common.{inl, inr, [], ◌∙◌, refl, subst, arith}
use Rattle.std.proofs.lemmas.Result.{err_from_is_err_and}
use Rattle.std.proofs.lemmas.Bool.{MatchBool-at_true, MatchBool-at_false}
use Rattle.inst_logged.specs.inner.Input.{rest_from}
use Rattle.inst_logged.proofs.ProgressOfLoggedHub.{come_none, come_more, come_longer, come_end, come_kept, come_so_far, served_as}
use Rattle.inst_logged.specs.Marking.{IsIntact, IsIntactBy}
use Rattle.inst_logged.specs.declared.version.Version.{Version}
use Rattle.inst_logged.proofs.FailuresOfLoggedHub.{unrefused_fails, fails_so, more_faults}
use Rattle.inst_logged.proofs.MarksStayRight.{same_intact}
use Rattle.inst_logged.proofs.hub.LoggedHub.serve_all.Goals as goal

pub loop-init : goal.loop-init
loop-init g c =
    record {
      come = come_none g.D.Disk.seen g.D.Disk.may_leave c.args.self.now.recorder _ _ _ c.args.self.now.intake c.requires.ready.measured.is_open.settled c.requires.nothing;
      turns = omega arith;
      calm = refl;
      ready = c.requires.ready;
      clean = λ clean. clean;
      version = refl;
    }

pub returns-in_err-turn-clause-any_moment : goal.returns-in_err-turn-clause-any_moment
returns-in_err-turn-clause-any_moment g c clean =
    let h = c.loop.invariant.come in
    come_kept g.D.Disk.seen g.D.Disk.may_leave c.args.self.now.recorder _ _ _ c.loop.self.recorder c.loop.self.intake _ _ _ _ _ (c.turn.ensures.clean clean) h
    (c.turn.ensures.any_moment clean (rest_from [] h.bytes) h.held_is)

pub returns-then-not-branch-clause-ok : goal.returns-then-not-branch-clause-ok
returns-then-not-branch-clause-ok g c =
    let h = c.loop.invariant.come in
    come_end g.D.Disk.seen g.D.Disk.may_leave c.args.self.now.recorder _ _ _ _ c.loop.self.recorder c.turn.new.self.recorder c.loop.self.intake _ _ _ _ c.turn.ensures.clean h
    (served_as g.D.Disk.seen g.D.Disk.may_leave c.loop.self.recorder (g.R.Read.remaining c.loop.reader) _ _ _ _ c.turn.new.self.recorder _ (λ lines. MatchBool-at_false _ _ c.if-not-branch.true)
    (c.in_ok-turn.ensures.ok (rest_from [] h.bytes) h.held_is))

pub returns-then-not-branch-clause-any_moment : goal.returns-then-not-branch-clause-any_moment
returns-then-not-branch-clause-any_moment g c clean =
    let h = c.loop.invariant.come in
    come_kept g.D.Disk.seen g.D.Disk.may_leave c.args.self.now.recorder _ _ _ c.loop.self.recorder c.loop.self.intake _ _ _ _ _ (c.turn.ensures.clean clean) h
    (c.turn.ensures.any_moment clean (rest_from [] h.bytes) h.held_is)

pub loop-preserved : goal.loop-preserved
loop-preserved g c =
    let h = c.loop.invariant.come in
    let on = served_as g.D.Disk.seen g.D.Disk.may_leave c.loop.self.recorder (g.R.Read.remaining c.loop.reader) _ _ _ _ c.turn.new.self.recorder _ (λ lines. MatchBool-at_true _ _ c.if-not-branch.false)
    (c.in_ok-turn.ensures.ok (rest_from [] h.bytes) h.held_is) in
    record {
      come = come_more g.D.Disk.seen g.D.Disk.may_leave c.args.self.now.recorder _ _ _ _ c.loop.self.recorder c.turn.new.self.recorder c.loop.self.intake c.turn.new.self.intake _ _ _ _ c.turn.ensures.clean h on;
      turns = come_longer g.D.Disk.seen g.D.Disk.may_leave c.args.self.now.recorder _ _ _ _ c.loop.self.recorder c.turn.new.self.recorder c.loop.self.intake c.turn.new.self.intake _ _ _ _ c.turn.ensures.clean h on
          c.loop.counter c.loop.invariant.turns;
      calm = c.in_ok-turn.ensures.failure.failure ∙ c.loop.invariant.calm;
      ready = c.in_ok-turn.ensures.ready;
      clean = λ clean. c.loop.invariant.clean (c.turn.ensures.clean clean);
      version = c.turn.ensures.version ∙ c.loop.invariant.version;
    }

pub returns-clause-any_moment : goal.returns-clause-any_moment
returns-clause-any_moment g c clean = come_so_far g.D.Disk.seen g.D.Disk.may_leave c.args.self.now.recorder _ _ _ c.loop.self.recorder c.loop.self.intake _ _ clean c.loop.invariant.come

-- marks stay right

pub returns-in_err-turn-clause-intact : goal.returns-in_err-turn-clause-intact
returns-in_err-turn-clause-intact g c mixes clean left may =
    subst (λ (v : Version). IsIntact v left) c.loop.invariant.version (c.turn.ensures.intact mixes clean left may)

pub returns-then-not-branch-clause-intact : goal.returns-then-not-branch-clause-intact
returns-then-not-branch-clause-intact g c mixes clean left may =
    subst (λ (v : Version). IsIntact v left) c.loop.invariant.version (c.turn.ensures.intact mixes clean left may)

pub returns-then-not-branch-clause-intact_now : goal.returns-then-not-branch-clause-intact_now
returns-then-not-branch-clause-intact_now g c clean =
    subst (λ (v : Version). IsIntactBy v (g.D.Disk.seen c.turn.new.self.recorder.log.disk) c.turn.new.self.marker) (c.turn.ensures.version ∙ c.loop.invariant.version) (c.in_ok-turn.ensures.ready.intact clean)

pub returns-clause-intact : goal.returns-clause-intact
returns-clause-intact g c mixes clean left may =
    let ready = c.loop.invariant.ready in
    same_intact c.args.self.now.version _ left c.loop.self.marker
    (subst (λ (v : Version). IsIntactBy v (g.D.Disk.seen c.loop.self.recorder.log.disk) c.loop.self.marker) c.loop.invariant.version (ready.intact clean)) ((ready.measured.is_open.settled clean).durable left may)

-- the log failed

pub returns-in_err-turn-clause-failure : goal.returns-in_err-turn-clause-failure
returns-in_err-turn-clause-failure g c =
    unrefused_fails g.D.Disk c.args.self.now.recorder.log.disk c.turn.new.self.recorder.log.disk _ _ c.from_residual.result _ (err_from_is_err_and c.from_residual.result c.from_residual.ensures.1) c.in_err-turn.ensures.failure.unrefused
    (λ clean. fails_so _ _ _ _ _ _ c.in_err-turn.field-0.0 (λ failed. more_faults _ _ _ c.loop.invariant.calm failed) (λ full. inl full) (λ is. is) (c.in_err-turn.ensures.failure.failure clean))

pub returns-clause-failure : goal.returns-clause-failure
returns-clause-failure g c = record {
  unrefused = λ no. no;
  failure = λ clean.
      let h = c.loop.invariant.come in
      ((λ is. cc is), inr (h.bytes, h.consumes, omega (arith, c.loop.invariant.turns, c.loop-test.false)));
}
