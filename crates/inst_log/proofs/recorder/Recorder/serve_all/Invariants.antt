use Rattle.std.proofs.Common.{◌≡◌, List, ℕ, drop}
use Rattle.inst_log.specs.Layout.{IsShut}
use Rattle.inst_log.specs.Log.{HasGained}
use Rattle.inst_log.specs.inner.Serving.{Served}
use Rattle.inst_log.proofs.recorder.Recorder.serve_all.Given as goal

-- what is answered is on the disk
abbrev pub invariant-loop-batch : goal.invariant-loop-batch
invariant-loop-batch g l =
    let keeps = λ (done : List (List ℕ)). HasGained g.D.Disk done (IsShut (g.D.Disk.seen l.fn.self.log.disk)) l.fn.self.log l.self.log in
    record {
      served : Served keeps (g.A.Responder.says l.fn.self.answers) (g.A.Responder.says l.self.answers) (g.W.Write.contents l.fn.writer) (g.W.Write.contents l.writer) l.batches (drop l.batch-index l.batches);
      clean : g.D.Disk.is_clean l.self.log.disk ≡ g.D.Disk.is_clean l.fn.self.log.disk;
    }
