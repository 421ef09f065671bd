use Rattle.std.proofs.Common.{refl}
use Rattle.inst_program_tests.proofs.memory_logs.disk_with.Goals as goal

pub returns-in-Ok-clause-copy : goal.returns-in-Ok-clause-copy
returns-in-Ok-clause-copy c =
    let copied = c.in-Ok.ensures in
    record {
      usable = rw (c.new.ensures.inner, c.new.ensures.fresh.1, copied.usable) refl;
      same = rw c.new.ensures.inner copied.same;
      on_disk = rw c.new.ensures.inner copied.on_disk;
    }
