use Rattle.std.proofs.Common.{length, take, inl, ◌∙◌, ap, subst, arith, IsTrue, ◌+◌, ◌<◌, ◌^◌}
use Rattle.std.proofs.lemmas.List.{length-drop}
use Rattle.inst_log.proofs.Lines.{all_lines, AllLines-append}
use Rattle.inst_log.proofs.CrashDuringAppend.{stage_crash, stage_at, gate_at, staged_is, gate_crash, opened_is, new_end, closed_at, tail_is, head_is, long_batch}
use Rattle.inst_log.proofs.FilesOpenWithSettings.{batch_length}
use Rattle.inst_log.proofs.ClosedByteSurvivesCrash.{as_closed, stage_shut, gate_shut, shut_at}
use Rattle.inst_log.proofs.log.Log.append.Goals as goal

-- neither part of a batch is empty
pub write_synced-requires-clause-some : goal.write_synced-requires-clause-some
write_synced-requires-clause-some g c =
    omega (arith, ap length (tail_is c.args.batch.now), length-drop 1 c.args.batch.now, long_batch c.args.batch.now c.requires.batch)

pub write_synced-requires-2-clause-some : goal.write_synced-requires-2-clause-some
write_synced-requires-2-clause-some g c = omega (arith, ap length (head_is c.args.batch.now c.requires.batch))

-- the first write leaves the lines as they were, and the closed byte 0 at their end
pub returns-in_err-write_synced-clause-any_moment : goal.returns-in_err-write_synced-clause-any_moment
returns-in_err-write_synced-clause-any_moment g c = record {
  lines = λ clean left may.
      let s = c.requires.open.settled (subst IsTrue c.write_synced.ensures.clean clean) in
      inl (stage_crash _ _ s.closed _ _ _ s.durable c.write_synced.ensures.crash left may);
  shut = λ mixes clean shut left may.
      let s = c.requires.open.settled (subst IsTrue c.write_synced.ensures.clean clean) in
      stage_shut _ c.args.self.now.end shut s.closed.ends _ _ _ s.durable c.write_synced.ensures.crash left may;
  clean = c.write_synced.ensures.clean;
}

-- the second leaves them with the batch or without
pub returns-in_err-write_synced-2-clause-any_moment : goal.returns-in_err-write_synced-2-clause-any_moment
returns-in_err-write_synced-2-clause-any_moment g c = record {
  lines = λ clean left may.
      let s = c.requires.open.settled (subst IsTrue (c.write_synced-2.ensures.clean ∙ c.write_synced.ensures.clean) clean) in
      let mid = staged_is _ _ s.closed _ c.requires.batch _ c.write_synced.ensures.others (λ _. c.in_ok-write_synced.ensures.written) in
      gate_crash _ _ s.closed _ c.requires.batch _ _ _ mid c.in_ok-write_synced.ensures.durable c.write_synced-2.ensures.crash left may;
  shut = λ mixes clean shut left may.
      let s = c.requires.open.settled (subst IsTrue (c.write_synced-2.ensures.clean ∙ c.write_synced.ensures.clean) clean) in
      let at = as_closed _ c.args.self.now.end shut s.closed.ends in
      let mid = staged_is _ _ at _ c.requires.batch _ c.write_synced.ensures.others (λ _. c.in_ok-write_synced.ensures.written) in
      let fits : c.args.self.now.end + length (take 1 c.args.batch.now) < 2 ^ 64 = omega (arith, c.if-self-ge-MOST_BYTES.false, ap length (head_is c.args.batch.now c.requires.batch)) in
      gate_shut _ c.args.self.now.end shut s.closed.ends c.args.batch.now _ c.requires.batch _ _ _ mid c.in_ok-write_synced.ensures.durable (c.write_synced-2.ensures.mixed mixes fits) left may;
  clean = c.write_synced-2.ensures.clean ∙ c.write_synced.ensures.clean;
}

pub returns-clause-any_moment : goal.returns-clause-any_moment
returns-clause-any_moment g c = record {
  lines = λ clean left may.
      let s = c.requires.open.settled (subst IsTrue (c.write_synced-2.ensures.clean ∙ c.write_synced.ensures.clean) clean) in
      let mid = staged_is _ _ s.closed _ c.requires.batch _ c.write_synced.ensures.others (λ _. c.in_ok-write_synced.ensures.written) in
      gate_crash _ _ s.closed _ c.requires.batch _ _ _ mid c.in_ok-write_synced.ensures.durable c.write_synced-2.ensures.crash left may;
  shut = λ mixes clean shut left may.
      let s = c.requires.open.settled (subst IsTrue (c.write_synced-2.ensures.clean ∙ c.write_synced.ensures.clean) clean) in
      let at = as_closed _ c.args.self.now.end shut s.closed.ends in
      let mid = staged_is _ _ at _ c.requires.batch _ c.write_synced.ensures.others (λ _. c.in_ok-write_synced.ensures.written) in
      let fits : c.args.self.now.end + length (take 1 c.args.batch.now) < 2 ^ 64 = omega (arith, c.if-self-ge-MOST_BYTES.false, ap length (head_is c.args.batch.now c.requires.batch)) in
      gate_shut _ c.args.self.now.end shut s.closed.ends c.args.batch.now _ c.requires.batch _ _ _ mid c.in_ok-write_synced.ensures.durable (c.write_synced-2.ensures.mixed mixes fits) left may;
  clean = c.write_synced-2.ensures.clean ∙ c.write_synced.ensures.clean;
}

-- how far the batch is then
pub returns-in_err-write_synced-clause-stages : goal.returns-in_err-write_synced-clause-stages
returns-in_err-write_synced-clause-stages g c clean left may =
    let s = c.requires.open.settled (subst IsTrue c.write_synced.ensures.clean clean) in
    stage_at _ _ s.closed _ c.requires.batch _ _ s.durable c.write_synced.ensures.crash left may

pub returns-in_err-write_synced-2-clause-stages : goal.returns-in_err-write_synced-2-clause-stages
returns-in_err-write_synced-2-clause-stages g c clean left may =
    let s = c.requires.open.settled (subst IsTrue (c.write_synced-2.ensures.clean ∙ c.write_synced.ensures.clean) clean) in
    let mid = staged_is _ _ s.closed _ c.requires.batch _ c.write_synced.ensures.others (λ _. c.in_ok-write_synced.ensures.written) in
    gate_at _ _ s.closed _ c.requires.batch _ _ _ mid c.in_ok-write_synced.ensures.durable c.write_synced-2.ensures.crash left may

pub returns-clause-stages : goal.returns-clause-stages
returns-clause-stages g c clean left may =
    let s = c.requires.open.settled (subst IsTrue (c.write_synced-2.ensures.clean ∙ c.write_synced.ensures.clean) clean) in
    let mid = staged_is _ _ s.closed _ c.requires.batch _ c.write_synced.ensures.others (λ _. c.in_ok-write_synced.ensures.written) in
    gate_at _ _ s.closed _ c.requires.batch _ _ _ mid c.in_ok-write_synced.ensures.durable c.write_synced-2.ensures.crash left may

-- and then the batch is on the disk, and the closed byte 0 behind it
pub returns-clause-ok : goal.returns-clause-ok
returns-clause-ok g c = record {
  log = record {
    usable = c.in_ok-write_synced-2.ensures.usable;
    settled = λ clean.
        let s = c.requires.open.settled (subst IsTrue (c.write_synced-2.ensures.clean ∙ c.write_synced.ensures.clean) clean) in
        let old = g.D.Disk.seen c.args.self.now.disk in
        let mid = staged_is _ _ s.closed _ c.requires.batch _ c.write_synced.ensures.others (λ _. c.in_ok-write_synced.ensures.written) in
        let is = opened_is _ _ s.closed _ c.requires.batch _ _ mid c.write_synced-2.ensures.others (λ _. c.in_ok-write_synced-2.ensures.written) in
        let at = closed_at _ _ _ 0 _ (AllLines-append _ _ (all_lines old) (all_lines c.args.batch.now)) is (omega arith) (new_end _ _ s.closed _ c.requires.batch) in
        (record { closed = at.0; durable = c.in_ok-write_synced-2.ensures.durable }, at.1);
    shut = λ clean well.
        let s = c.requires.open.settled (subst IsTrue (c.write_synced-2.ensures.clean ∙ c.write_synced.ensures.clean) clean) in
        let old = g.D.Disk.seen c.args.self.now.disk in
        let mid = staged_is _ _ s.closed _ c.requires.batch _ c.write_synced.ensures.others (λ _. c.in_ok-write_synced.ensures.written) in
        let is = opened_is _ _ s.closed _ c.requires.batch _ _ mid c.write_synced-2.ensures.others (λ _. c.in_ok-write_synced-2.ensures.written) in
        shut_at _ _ _ (AllLines-append _ _ (all_lines old) (all_lines c.args.batch.now)) is;
    calm = c.in_ok-write_synced-2.ensures.cause ∙ c.in_ok-write_synced.ensures.cause;
  };
  end = omega (arith, batch_length c.args.batch.now c.requires.batch);
}
