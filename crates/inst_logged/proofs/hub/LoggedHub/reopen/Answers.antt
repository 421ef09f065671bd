use Rattle.std.proofs.Common.{List, ℕ, inl, inr, refl, ◌∙◌, sym, subst}
use Rattle.std.proofs.lemmas.Result.{err_from_is_err_and}
use Rattle.inst_log.specs.Layout.{EndsWell, IsBatch}
use Rattle.inst_logged.specs.Marking.{BeginsWithMarker}
use Rattle.inst_logged.specs.declared.error.LoggedError.TheVariants.{Log}
use Rattle.inst_log.specs.Disks.{HasSameFile}
use Rattle.inst_logged.proofs.CausesOfRefusal.{cause_of_none}
use Rattle.inst_logged.proofs.CausesOfRefusalByCall.{passed, starts_as, unopened_cause, told_cause}
use Rattle.inst_logged.proofs.FailuresOfLoggedHub.{failed_so, more_faults, unopened_fails}
use Rattle.inst_logged.proofs.MarksStayRight.{verified_intact, opening_intact, opened_found, opened_none}
use Rattle.inst_logged.proofs.hub.LoggedHub.reopen.Goals as goal

-- the header is the first lines of a log, and their marker

pub examine-requires-clause-batch : goal.examine-requires-clause-batch
examine-requires-clause-batch g c = subst IsBatch (sym c.as_slice-header.ensures.value) c.requires.ready.unbegun.batch

pub examine-requires-clause-begins : goal.examine-requires-clause-begins
examine-requires-clause-begins g c =
    let self = c.args.self.now in
    subst (λ (l : List ℕ). BeginsWithMarker self.version l self.marker) (sym c.as_slice-header.ensures.value) c.requires.ready.unbegun.begins

-- it ended before it was opened

pub returns-in_err-found-clause-err : goal.returns-in_err-found-clause-err
returns-in_err-found-clause-err g c =
    let self = c.args.self.now in
    let left = c.examine.ensures.read.left in
    passed _ c.from_residual.result _ (err_from_is_err_and c.from_residual.result c.from_residual.ensures.1)
    (record {
      refused = λ _. (refl, left);
      begun = λ _. inl (refl, left);
      cause = λ clean. c.in_err-found.ensures.cause clean self.header.items c.args.told;
      failure = λ clean. failed_so _ _ ⊥ ⊥ _ _ c.in_err-found.field-0.0 (λ failed. failed) (λ no. no) (λ no. absurd no) (c.in_err-found.ensures.failure clean).1;
    })

pub returns-in_err-start-clause-err : goal.returns-in_err-start-clause-err
returns-in_err-start-clause-err g c =
    let self = c.args.self.now in
    let file = g.D.Disk.seen self.recorder.log.disk in
    let left : HasSameFile g.D.Disk self.recorder.log.disk c.inspect.new.self.disk = record { same = c.inspect.ensures.read.0.left.same ∙ c.examine.ensures.read.left.same; crash = λ f may. c.examine.ensures.read.left.crash f (c.inspect.ensures.read.0.left.crash f may) } in
    passed _ c.from_residual-in_err-start.result _ (err_from_is_err_and c.from_residual-in_err-start.result c.from_residual-in_err-start.ensures.1)
    (record {
      refused = λ _. (refl, left);
      begun = λ _. inl (refl, left);
      cause = λ clean.
          unopened_cause self.version self.header.items c.args.told c.args.wanted file c.requires.ready.unbegun.batch _ _ _ c.in_err-start.field-0.0 clean
          (rw (c.as_slice-header.ensures.value, c.examine.ensures.read.left.same) at c.in_err-start.ensures.cause);
      failure = λ clean.
          failed_so _ _ ⊥ ⊥ ⊥ _ (Log c.in_err-start.field-0.0) (λ failed. more_faults _ _ _ c.in_ok-found.ensures.failure (failed clean)) (λ no. no) (λ no. absurd no)
          (unopened_fails self.header.items file _ _ _ ⊥ ⊥ c.in_err-start.field-0.0 (rw (c.as_slice-header.ensures.value, c.examine.ensures.read.left.same) at c.in_err-start.ensures.cause));
    })

pub returns-in_err-start_again-clause-err : goal.returns-in_err-start_again-clause-err
returns-in_err-start_again-clause-err g c =
    let self = c.args.self.now in
    let header = self.header.items in
    let file = g.D.Disk.seen self.recorder.log.disk in
    let left : HasSameFile g.D.Disk self.recorder.log.disk c.start_again.new.recorder.log.disk = record {
      same = c.start_again.ensures.same.read.left.same ∙ c.inspect.ensures.read.0.left.same ∙ c.examine.ensures.read.left.same;
      crash = λ f may. c.examine.ensures.read.left.crash f (c.inspect.ensures.read.0.left.crash f (c.start_again.ensures.same.read.left.crash f may));
    } in
    passed _ c.from_residual-in_err-start_again.result _ (err_from_is_err_and c.from_residual-in_err-start_again.result c.from_residual-in_err-start_again.ensures.1)
    (record {
      refused = λ refused. ((c.in_err-start_again.ensures.replays.refused refused).1, left);
      begun = λ clean.
          let before = c.start_again.ensures.same.read.clean clean in
          let found = c.in_ok-found.ensures.found (c.inspect.ensures.read.0.clean before) in
          let enough = rw (c.as_slice-header.ensures.value, c.inspect.ensures.read.0.left.same, c.examine.ensures.read.left.same) at (c.in_err-start_again.ensures.replays.begun clean) in
          elim enough [
            | inl still ↦ inl (still, left)
            | inr there ↦ inr (record {
              intact = verified_intact self.version file c.in_ok-found.found.marker found.verified;
              opens = starts_as header file c.in_ok-start.start (rw (c.as_slice-header.ensures.value, c.examine.ensures.read.left.same) at (c.in_ok-start.ensures.start before));
              enough = there;
              digest = found.digest;
            })
          ];
      cause = λ clean. told_cause self.version header c.args.told c.args.wanted file c.in_err-start_again.field-0.0
          (λ refused.
          let why = rw (c.as_slice-header.ensures.value, c.inspect.ensures.read.0.left.same, c.examine.ensures.read.left.same) at (c.in_err-start_again.ensures.replays.refused refused) in
          (why.0, why.2 clean)) (c.in_err-start_again.ensures.replays.failure clean).0;
      failure = λ clean.
          failed_so _ _ ⊥ ⊥ _ _ c.in_err-start_again.field-0.0 (λ failed. more_faults _ _ _ (c.in_ok-start.ensures.cause ∙ c.in_ok-found.ensures.failure) failed) (λ no. no) (λ _. inr left)
          (c.in_err-start_again.ensures.replays.failure clean).1;
    })

-- as it was opened

pub returns-in_err-self-clause-err : goal.returns-in_err-self-clause-err
returns-in_err-self-clause-err g c =
    let self = c.args.self.now in
    let header = self.header.items in
    let file = g.D.Disk.seen self.recorder.log.disk in
    passed _ c.from_residual-in_err-self.result _ (err_from_is_err_and c.from_residual-in_err-self.result c.from_residual-in_err-self.ensures.1)
    (record {
      refused = λ refused. absurd (c.in_err-self.ensures.failure.unrefused refused);
      begun = λ clean.
          let after = c.open_measured.ensures.any_moment.clean clean in
          let before = c.start_again.ensures.same.read.clean after in
          let found = c.in_ok-found.ensures.found (c.inspect.ensures.read.0.clean before) in
          inr (record {
            intact = verified_intact self.version file c.in_ok-found.found.marker found.verified;
            opens = starts_as header file c.in_ok-start.start (rw (c.as_slice-header.ensures.value, c.examine.ensures.read.left.same) at (c.in_ok-start.ensures.start before));
            enough = (rw (c.as_slice-header.ensures.value, c.inspect.ensures.read.0.left.same, c.examine.ensures.read.left.same) at (c.in_ok-start_again.ensures.replays.replayed after)).enough;
            digest = found.digest;
          });
      cause = λ clean. cause_of_none self.version header c.args.told c.args.wanted file c.in_err-self.field-0.0 c.in_err-self.ensures.failure.unrefused (c.in_err-self.ensures.failure.failure clean).0;
      failure = λ clean.
          failed_so _ _ ⊥ ⊥ _ _ c.in_err-self.field-0.0 (λ failed. more_faults _ _ _ (c.in_ok-start_again.ensures.replays.failure ∙ c.in_ok-start.ensures.cause ∙ c.in_ok-found.ensures.failure) failed) (λ no. no) (λ no. absurd no)
          (c.in_err-self.ensures.failure.failure clean).1;
    })

pub returns-in_err-self-clause-any_moment : goal.returns-in_err-self-clause-any_moment
returns-in_err-self-clause-any_moment g c clean =
    let self = c.args.self.now in
    let header = self.header.items in
    let file = g.D.Disk.seen self.recorder.log.disk in
    let seen = c.start_again.ensures.same.read.left.same ∙ c.inspect.ensures.read.0.left.same ∙ c.examine.ensures.read.left.same in
    record {
      alike = λ left may. rw (c.as_slice-header.ensures.value, seen) at (c.open_measured.ensures.any_moment.alike clean left may);
      stands = λ left may. rw (c.as_slice-header.ensures.value, seen) at (c.open_measured.ensures.any_moment.stands clean left may);
      intact = λ mixes before left may.
          opening_intact self.version header file left self.marker c.requires.ready.unbegun.begins before
          (rw (c.as_slice-header.ensures.value, seen) at (c.open_measured.ensures.any_moment.stands clean left may))
          (λ well. c.open_measured.ensures.any_moment.shut mixes clean (subst EndsWell (sym seen) well) left may);
    }

-- a marker was found

pub returns-in-Some-clause-ok : goal.returns-in-Some-clause-ok
returns-in-Some-clause-ok g c = (
  c.in_ok-self.ensures.log.usable,
  λ clean.
      let self = c.args.self.now in
      let header = self.header.items in
      let file = g.D.Disk.seen self.recorder.log.disk in
      let disk = c.open_measured.new.log.disk in
      let seen = c.start_again.ensures.same.read.left.same ∙ c.inspect.ensures.read.0.left.same ∙ c.examine.ensures.read.left.same in
      let after = c.open_measured.ensures.any_moment.clean clean in
      let before = c.start_again.ensures.same.read.clean after in
      let found = c.in_ok-found.ensures.found (c.inspect.ensures.read.0.clean before) in
      let replayed = rw (c.as_slice-header.ensures.value, c.inspect.ensures.read.0.left.same, c.examine.ensures.read.left.same) at (c.in_ok-start_again.ensures.replays.replayed after) in
      let settled = c.in_ok-self.ensures.log.settled clean in
      let lines = rw (c.as_slice-header.ensures.value, seen) at settled.1 in
      record {
        taken = record {
          intact = verified_intact self.version file c.in_ok-found.found.marker found.verified;
          opens = starts_as header file c.in_ok-start.start (rw (c.as_slice-header.ensures.value, c.examine.ensures.read.left.same) at (c.in_ok-start.ensures.start before));
          enough = replayed.enough;
          digest = found.digest;
        };
        settled = settled.0;
        lines = lines;
        intact = opened_found self.version header file (g.D.Disk.seen disk) c.in_ok-found.found.marker c.in-Some.marker self.marker c.in-Some.is found.verified
            (rw (c.as_slice-header.ensures.value, seen) at (c.open_measured.ensures.any_moment.stands clean (g.D.Disk.seen disk) (g.met.D.Disk.seen_may_stay disk)))
            (λ well. c.in_ok-self.ensures.log.shut clean (subst EndsWell (sym seen) well));
        replayed = replayed;
        calm = c.in_ok-self.ensures.failure.failure ∙ c.in_ok-start_again.ensures.replays.failure ∙ c.in_ok-start.ensures.cause ∙ c.in_ok-found.ensures.failure;
        size = c.in_ok-self.ensures.size clean;
      },
)

pub returns-in-Some-clause-any_moment : goal.returns-in-Some-clause-any_moment
returns-in-Some-clause-any_moment g c clean =
    let self = c.args.self.now in
    let header = self.header.items in
    let file = g.D.Disk.seen self.recorder.log.disk in
    let seen = c.start_again.ensures.same.read.left.same ∙ c.inspect.ensures.read.0.left.same ∙ c.examine.ensures.read.left.same in
    record {
      alike = λ left may. rw (c.as_slice-header.ensures.value, seen) at (c.open_measured.ensures.any_moment.alike clean left may);
      stands = λ left may. rw (c.as_slice-header.ensures.value, seen) at (c.open_measured.ensures.any_moment.stands clean left may);
      intact = λ mixes before left may.
          opening_intact self.version header file left self.marker c.requires.ready.unbegun.begins before
          (rw (c.as_slice-header.ensures.value, seen) at (c.open_measured.ensures.any_moment.stands clean left may))
          (λ well. c.open_measured.ensures.any_moment.shut mixes clean (subst EndsWell (sym seen) well) left may);
    }

-- it had no line

pub returns-in-None-clause-ok : goal.returns-in-None-clause-ok
returns-in-None-clause-ok g c = (
  c.in_ok-self.ensures.log.usable,
  λ clean.
      let self = c.args.self.now in
      let header = self.header.items in
      let file = g.D.Disk.seen self.recorder.log.disk in
      let disk = c.open_measured.new.log.disk in
      let seen = c.start_again.ensures.same.read.left.same ∙ c.inspect.ensures.read.0.left.same ∙ c.examine.ensures.read.left.same in
      let after = c.open_measured.ensures.any_moment.clean clean in
      let before = c.start_again.ensures.same.read.clean after in
      let found = c.in_ok-found.ensures.found (c.inspect.ensures.read.0.clean before) in
      let replayed = rw (c.as_slice-header.ensures.value, c.inspect.ensures.read.0.left.same, c.examine.ensures.read.left.same) at (c.in_ok-start_again.ensures.replays.replayed after) in
      let settled = c.in_ok-self.ensures.log.settled clean in
      let lines = rw (c.as_slice-header.ensures.value, seen) at settled.1 in
      record {
        taken = record {
          intact = verified_intact self.version file c.in_ok-found.found.marker found.verified;
          opens = starts_as header file c.in_ok-start.start (rw (c.as_slice-header.ensures.value, c.examine.ensures.read.left.same) at (c.in_ok-start.ensures.start before));
          enough = replayed.enough;
          digest = found.digest;
        };
        settled = settled.0;
        lines = lines;
        intact = opened_none self.version header file (g.D.Disk.seen disk) c.in_ok-found.found.marker self.marker c.in-None.is c.requires.ready.unbegun.begins found.verified lines
            (λ well. c.in_ok-self.ensures.log.shut clean (subst EndsWell (sym seen) well));
        replayed = replayed;
        calm = c.in_ok-self.ensures.failure.failure ∙ c.in_ok-start_again.ensures.replays.failure ∙ c.in_ok-start.ensures.cause ∙ c.in_ok-found.ensures.failure;
        size = c.in_ok-self.ensures.size clean;
      },
)

pub returns-in-None-clause-any_moment : goal.returns-in-None-clause-any_moment
returns-in-None-clause-any_moment g c clean =
    let self = c.args.self.now in
    let header = self.header.items in
    let file = g.D.Disk.seen self.recorder.log.disk in
    let seen = c.start_again.ensures.same.read.left.same ∙ c.inspect.ensures.read.0.left.same ∙ c.examine.ensures.read.left.same in
    record {
      alike = λ left may. rw (c.as_slice-header.ensures.value, seen) at (c.open_measured.ensures.any_moment.alike clean left may);
      stands = λ left may. rw (c.as_slice-header.ensures.value, seen) at (c.open_measured.ensures.any_moment.stands clean left may);
      intact = λ mixes before left may.
          opening_intact self.version header file left self.marker c.requires.ready.unbegun.begins before
          (rw (c.as_slice-header.ensures.value, seen) at (c.open_measured.ensures.any_moment.stands clean left may))
          (λ well. c.open_measured.ensures.any_moment.shut mixes clean (subst EndsWell (sym seen) well) left may);
    }
