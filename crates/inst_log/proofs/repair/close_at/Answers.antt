use Rattle.std.proofs.Common.{subst, IsTrue}
use Rattle.std.proofs.lemmas.Result.{on_ok_weaker}
use Rattle.sqlite_disk.specs.Disk.{Torn}
use Rattle.inst_log.proofs.CrashDuringRepair.{torn_close, closed_now}
use Rattle.inst_log.proofs.repair.close_at.Goals as goal

pub returns-clause-repaired : goal.returns-clause-repaired
returns-clause-repaired g c = record {
  closed =
      on_ok_weaker c.write_synced.result (λ written clean.
      let before = subst IsTrue c.write_synced.ensures.clean clean in
      closed_now (g.D.Disk.seen c.args.disk.now) c.args.end (c.requires.unclosed before) _ c.write_synced.ensures.others written) c.write_synced.ensures.written;
  durable = on_ok_weaker c.write_synced.result (λ only _. only) c.write_synced.ensures.durable;
  any_moment = λ clean left may.
      let before = subst IsTrue c.write_synced.ensures.clean clean in
      let from = c.write_synced.ensures.crash left may in
      torn_close _ _ (c.requires.unclosed before) left (subst (λ f. Torn c.args.end 1 f left) (c.requires.known before from.0 from.1) from.2);
  usable = c.write_synced.ensures.usable;
  clean = subst IsTrue c.write_synced.ensures.clean;
}
