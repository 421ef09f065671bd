use Rattle.inst_world_tests.proofs.DiskReadyForHub.{left_known, ready_on}
use Rattle.inst_world_tests.proofs.logged.openings.run_on.Goals as goal

pub run_through-requires : goal.run_through-requires
run_through-requires c = record {
  ready = ready_on _ c.with_disk.result c.of_log.new.disk c.with_disk.ensures.unbegun c.with_disk.ensures.disk c.of_log.ensures.read.usable
      (left_known _ c.in_ok-disk.disk c.of_log.new.disk c.of_log.ensures.read.left c.in_ok-disk.ensures.known);
}
