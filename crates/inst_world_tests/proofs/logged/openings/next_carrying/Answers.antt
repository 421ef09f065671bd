use Rattle.inst_world_tests.proofs.DiskReadyForHub.{left_known, ready_on}
use Rattle.inst_world_tests.proofs.logged.openings.next_carrying.Goals as goal

pub next_of-requires : goal.next_of-requires
next_of-requires c = record {
  digest = c.requires.digest;
  ready = ready_on _ c.with_disk.result c.of_log.new.disk c.with_disk.ensures.unbegun c.with_disk.ensures.disk c.of_log.ensures.read.usable
      (left_known _ c.in_ok-disk.disk c.of_log.new.disk c.of_log.ensures.read.left c.in_ok-disk.ensures.known);
}
