use Rattle.std.proofs.Common.{◌≡◌, ◌∙◌, [], inl, inr, refl, sym, ap, subst}
use Rattle.inst_base.specs.Newline.{NoNewline}
use Rattle.inst_logged.specs.Intake.{line_part}
use Rattle.std.proofs.lemmas.Result.{err_from_is_err_and, on_ok_weaker, IfErr-weaker}
use Rattle.inst_log.specs.Opening.{lines_after_settings}
use Rattle.inst_log.proofs.ToldRepliesAreKept.{run_opens}
use Rattle.inst_log.specs.Serving.{SaysOn}
use Rattle.inst_chain.specs.Chain.{kept_said}
use Rattle.inst_lines.specs.declared.mode.Mode.{Mode}
use Rattle.inst_logged.specs.Answering.{SaysLines, told_count}
use Rattle.inst_logged.specs.Logged.{AreReplies, unsent_replies_at}
use Rattle.inst_logged.specs.Marking.{IsIntact, IsIntactBy}
use Rattle.inst_logged.specs.declared.version.Version.{Version}
use Rattle.inst_logged.proofs.CausesOfRefusal.{cause_of_none}
use Rattle.inst_logged.proofs.CausesOfRefusalByCall.{passed}
use Rattle.inst_logged.proofs.FailuresOfLoggedHub.{failed_so, more_faults, err_of_fails}
use Rattle.inst_logged.proofs.MarksStayRight.{by_intact, on_ok_both, if_err_both}
use Rattle.inst_logged.proofs.HubOpenedFromJournals.{lines_behind_keep}
use Rattle.inst_logged.proofs.WholeRunOfLoggedHub.{begins_behind, begins_still, ends_still, survives_none, survives_more, logs_all}
use Rattle.inst_logged.proofs.hub.LoggedHub.run.Goals as goal

pub returns-in_err-reopen-clause-any_moment : goal.returns-in_err-reopen-clause-any_moment
returns-in_err-reopen-clause-any_moment g c clean =
    let self = c.args.self.now in
    let header = self.header.items in
    let file = g.D.Disk.seen self.recorder.log.disk in
    let stays = c.reopen.ensures.any_moment clean in
    record {
      survives = λ past keeps. survives_none self.recorder.answers.mode past header c.args.told file _ _ _ _ (c.reopen.ensures.part clean past keeps) (λ left may. (stays.alike left may).lines);
      begins = λ begins left may. begins_still header file left begins (stays.stands left may);
      opens = λ opens left may. (stays.alike left may).opens opens;
      intact = stays.intact;
    }

pub returns-in_err-reopen-clause-err : goal.returns-in_err-reopen-clause-err
returns-in_err-reopen-clause-err g c =
    passed _ c.from_residual.result _ (err_from_is_err_and c.from_residual.result c.from_residual.ensures.1)
    (ends_still _ _ _ _ _ _ _ _ _ (λ still. (refl, still)) c.in_err-reopen.ensures.err)

pub serve_all-requires-clause-ready : goal.serve_all-requires-clause-ready
serve_all-requires-clause-ready g c =
    let (usable, reopens) = c.in_ok-reopen.ensures.ok in
    let nothing : line_part c.reopen.new.self.intake ≡ [] = ap line_part c.reopen.ensures.same.0 ∙ c.requires.ready.unbegun.nothing in
    record {
      measured = record {
        is_open = record { usable = usable; settled = λ clean. (reopens clean).settled };
        size_is = λ clean. (reopens clean).size;
      };
      intact = λ clean.
          subst (λ (v : Version). IsIntactBy v (g.D.Disk.seen c.reopen.new.self.recorder.log.disk) c.reopen.new.self.marker) (sym c.reopen.ensures.same.1) (reopens clean).intact;
      part = subst NoNewline (sym nothing) tt;
    }

pub returns-clause-end : goal.returns-clause-end
returns-clause-end g c = on_ok_weaker c.serve_all.result (λ served. served.came.at_end) c.serve_all.ensures.ok

pub returns-clause-ok : goal.returns-clause-ok
returns-clause-ok g c =
    let self = c.args.self.now in
    let mode = self.recorder.answers.mode in
    let header = self.header.items in
    let file = g.D.Disk.seen self.recorder.log.disk in
    let runner = c.reopen.new.self.recorder.answers.runner in
    let after = c.serve_all.new.self in
    on_ok_weaker c.serve_all.result (λ both clean.
    let was = c.serve_all.ensures.clean clean in
    let r = c.in_ok-reopen.ensures.ok.1 was in
    record {
      taken = r.taken;
      logged = λ past keeps.
          logs_all mode past header c.args.told file g.D.Disk.seen g.D.Disk.may_leave _
          c.reopen.new.self.recorder after.recorder _ _ _ _ _
          (subst (λ (m : Mode). SaysOn (AreReplies (unsent_replies_at mode past (kept_said header file) (told_count c.args.told (kept_said header file)))) [] (SaysLines m runner)) (sym c.reopen.ensures.same.2) (r.replayed.on past keeps))
          (r.replayed.tells past keeps) r.lines both.0 clean (λ lines. lines_behind_keep mode past self.recorder.answers.runner lines keeps);
      settled = (both.0.settled clean).0;
      intact = by_intact self.version (g.D.Disk.seen after.recorder.log.disk) after.marker
          (subst (λ (v : Version). IsIntactBy v (g.D.Disk.seen after.recorder.log.disk) after.marker) c.reopen.ensures.same.1 (both.1 clean));
    }) (on_ok_both c.serve_all.result _ _ c.serve_all.ensures.ok c.serve_all.ensures.intact_now)

pub returns-clause-any_moment : goal.returns-clause-any_moment
returns-clause-any_moment g c clean =
    let self = c.args.self.now in
    let mode = self.recorder.answers.mode in
    let header = self.header.items in
    let file = g.D.Disk.seen self.recorder.log.disk in
    let runner = c.reopen.new.self.recorder.answers.runner in
    let was = c.serve_all.ensures.clean clean in
    let r = c.in_ok-reopen.ensures.ok.1 was in
    let k = c.serve_all.ensures.any_moment clean in
    record {
      survives = λ past keeps.
          survives_more mode past header c.args.told file _ _ _ _ _ _ _ _
          (subst (λ (m : Mode). SaysOn (AreReplies (unsent_replies_at mode past (kept_said header file) (told_count c.args.told (kept_said header file)))) [] (SaysLines m runner)) (sym c.reopen.ensures.same.2) (r.replayed.on past keeps))
          (r.replayed.tells past keeps) r.lines k;
      begins = λ begins left may. begins_behind _ header (lines_after_settings header file) _ _ _ left r.lines (k.kept.kept left may);
      opens = λ opens left may. run_opens (AreReplies (λ lines. [])) (lines_after_settings header file) header _ _ _ _ _ k.lines r.lines k.kept left may;
      intact = λ mixes before left may. subst (λ (v : Version). IsIntact v left) c.reopen.ensures.same.1 (c.serve_all.ensures.intact mixes clean left may);
    }

pub returns-clause-err : goal.returns-clause-err
returns-clause-err g c =
    let self = c.args.self.now in
    IfErr-weaker c.serve_all.result _ _ (λ e no. record {
      refused = λ refused. absurd (no.0 refused);
      begun = λ clean. inr (c.in_ok-reopen.ensures.ok.1 (c.serve_all.ensures.clean clean)).taken;
      cause = λ clean. cause_of_none self.version self.header.items c.args.told c.args.wanted (g.D.Disk.seen self.recorder.log.disk) e no.0 (no.1 clean).0;
      failure = λ clean. failed_so _ _ _ _ _ _ e (λ failed. more_faults _ _ _ (c.in_ok-reopen.ensures.ok.1 (c.serve_all.ensures.clean clean)).calm failed) (λ is. is) (λ is. inl is) (no.1 clean).1;
    }) (if_err_both c.serve_all.result _ _ c.serve_all.ensures.failure.unrefused (err_of_fails c.serve_all.result _ _ c.serve_all.ensures.failure.failure))
