use Rattle.inst_world_tests.proofs.DiskReadyForHub.{left_known, ready_on}
use Rattle.inst_world_tests.proofs.logged.audits.open.Goals as goal

pub run-requires : goal.run-requires
run-requires c = record {
  ready = ready_on _ c.with_disk-hub.result c.of_log.new.disk c.with_disk-hub.ensures.unbegun c.with_disk-hub.ensures.disk c.of_log.ensures.read.usable
      (left_known _ c.in_ok-disk.disk c.of_log.new.disk c.of_log.ensures.read.left c.in_ok-disk.ensures.known);
}
