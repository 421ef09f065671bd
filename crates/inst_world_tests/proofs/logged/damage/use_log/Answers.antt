use Rattle.inst_world_tests.proofs.DiskReadyForHub.{left_known, ready_on}
use Rattle.inst_world_tests.proofs.logged.damage.use_log.Goals as goal

pub run_hub-outcome-requires : goal.run_hub-outcome-requires
run_hub-outcome-requires c = record {
  ready = ready_on _ c.with_disk-hub.result c.of_log.new.disk c.with_disk-hub.ensures.unbegun c.with_disk-hub.ensures.disk c.of_log.ensures.read.usable
      (left_known _ c.in_ok-disk.disk c.of_log.new.disk c.of_log.ensures.read.left c.in_ok-disk.ensures.known);
}

pub close_hub-outcome-requires : goal.close_hub-outcome-requires
close_hub-outcome-requires c = record {
  ready = ready_on _ c.with_disk-hub.result c.of_log.new.disk c.with_disk-hub.ensures.unbegun c.with_disk-hub.ensures.disk c.of_log.ensures.read.usable
      (left_known _ c.in_ok-disk.disk c.of_log.new.disk c.of_log.ensures.read.left c.in_ok-disk.ensures.known);
}
