use Rattle.std.proofs.Common.{◌≡◌, ◌≤◌, length}
use Rattle.inst_log.specs.Disks.{HasKeptFaith}
use Rattle.inst_logged.specs.inner.Logged.{HasCome}
use Rattle.inst_logged.specs.inner.Serving.{IsServing}
use Rattle.inst_logged.proofs.hub.LoggedHub.serve_all.Given as goal

abbrev pub invariant-loop : goal.invariant-loop
invariant-loop g l = record {
  come : HasCome g.D.Disk.seen g.D.Disk.may_leave (HasKeptFaith g.D.Disk l.self.recorder.log.disk) l.fn.self.recorder l.self.recorder
      l.self.intake (g.R.Read.remaining l.fn.reader) (g.R.Read.remaining l.reader) (g.W.Write.contents l.fn.writer) (g.W.Write.contents l.writer);
  turns : l.counter ≤ length come.bytes;
  calm : g.D.Disk.faults l.self.recorder.log.disk ≡ g.D.Disk.faults l.fn.self.recorder.log.disk;
  ready : IsServing g.D.Disk l.self;
  clean : HasKeptFaith g.D.Disk l.self.recorder.log.disk → HasKeptFaith g.D.Disk l.fn.self.recorder.log.disk;
  version : l.self.version ≡ l.fn.self.version;
}
