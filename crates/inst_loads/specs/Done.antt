-- The results of a round's threads. A thread that didn't fail returns a teller of the hub with as
-- many parts as its job's teller.
use Rattle.std.specs.Prelude.{◌≡◌, ℕ, List, length, slice_get, Some, Result, IfOk}
use Rattle.inst_hub.specs.declared.hub.Hub.{Hub}
use Rattle.inst_loads.specs.declared.hub.done.Done.{Done}
use Rattle.inst_loads.specs.declared.hub.job.HubJob.{HubJob}
use Rattle.inst_loads.specs.declared.flaw.Failure.{Failure}
use Rattle.inst_loads.specs.Jobs.{IsStill}

-- The results are those of the jobs, in order. Each job was done, unless its thread failed.
pub record AllAreDone {T : Type 0} (h : Hub) (jobs : List HubJob)
    (results : List (Result (Done T) Failure)) : Type 0 where
  pub enough : length results ≡ length jobs
  pub each : (i : ℕ) (job : HubJob) (r : Result (Done T) Failure) → slice_get jobs i ≡ Some job →
      slice_get results i ≡ Some r →
      IfOk r (λ done. IsStill h job.teller done.job.teller)
