use Rattle.inst_world_tests.proofs.DiskReadyForHub.{ready_on}
use Rattle.inst_world_tests.proofs.logged.openings.begun_from.Goals as goal

pub run_through-requires : goal.run_through-requires
run_through-requires c = record {
  ready = ready_on _ c.with_disk.result c.in_ok-disk.disk c.with_disk.ensures.unbegun c.with_disk.ensures.disk c.in_ok-disk.ensures.usable c.in_ok-disk.ensures.known;
}
