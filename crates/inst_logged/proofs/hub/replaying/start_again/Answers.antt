use Rattle.std.proofs.Common.{rules, [], List, ℕ, refl, sym, ap, subst}
use Rattle.std.proofs.lemmas.Result.{on_ok_weaker, IfErr-weaker}
use Rattle.inst_chain.specs.Chain.{said}
use Rattle.inst_logged.specs.inner.Replaying.{IsReplayed}
use Rattle.inst_logged.proofs.Debt.{again_none, replayed, part_so_far, too_few, left_start, kept_none}
use Rattle.inst_logged.proofs.FailuresOfLoggedHub.{fails_told}
use Rattle.inst_logged.proofs.hub.replaying.start_again.Goals as goal

pub replay-requires-clause-begins : goal.replay-requires-clause-begins
replay-requires-clause-begins g c clean = rw c.in-Log.is at (c.requires.starts clean)

-- a new file
pub returns-in-New-clause-replays : goal.returns-in-New-clause-replays
returns-in-New-clause-replays g c = record {
  replayed =
      let file = g.D.Disk.seen c.args.recorder.now.log.disk in
      let mode = c.args.recorder.now.answers.mode in
      let runner = c.args.recorder.now.answers.runner in
      on_ok_weaker c.require_none.result (λ none clean.
      let starts = rw c.in-New.is at (c.requires.starts clean) in
      subst (λ (ls : List (List ℕ)). IsReplayed mode c.args.told runner runner ls (g.W.Write.contents c.args.writer.now) (g.W.Write.contents c.args.writer.now)) (sym (kept_none c.args.header.now file starts.1))
      (replayed mode c.args.told c.args.told runner runner [] _ _ (again_none mode c.args.told runner _) none)) c.require_none.ensures.none;
  part = λ clean past keeps.
      let file = g.D.Disk.seen c.args.recorder.now.log.disk in
      let mode = c.args.recorder.now.answers.mode in
      let runner = c.args.recorder.now.answers.runner in
      let starts = rw c.in-New.is at (c.requires.starts clean) in
      part_so_far mode past c.args.told c.args.told runner runner _ [] [] _ _ (ap said (kept_none c.args.header.now file starts.1)) keeps (again_none mode c.args.told runner _);
  refused =
      let file = g.D.Disk.seen c.args.recorder.now.log.disk in
      let mode = c.args.recorder.now.answers.mode in
      IfErr-weaker c.require_none.result _ _ (λ error e refused. (
        e.0,
        refl,
        λ clean.
            let starts = rw c.in-New.is at (c.requires.starts clean) in
            rw (kept_none c.args.header.now file starts.1) (too_few mode c.args.told c.args.told [] e.1 (left_start mode c.args.told) e.2 e.3),
      )) c.require_none.ensures.some;
  begun = search rules;
  failure =
      fails_told _ _ _ _ _ c.require_none.result refl (IfErr-weaker c.require_none.result _ _ (λ _ told. told.0) c.require_none.ensures.some);
}
