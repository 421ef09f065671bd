-- The jobs of a load. Each has a teller of the hub, and keeps the teller's parts of the hub's row,
-- so that the hub can be closed at the end.
use Rattle.std.specs.Prelude.{◌≡◌, ◌+◌, ℕ, List, slice_get, Some, sum_by}
use Rattle.inst_row.specs.declared.row.TheConstants.{MOST_SEATS}
use Rattle.inst_row.specs.Seated.{view_of}
use Rattle.inst_hub.specs.declared.hub.Hub.{Hub}
use Rattle.inst_hub.specs.declared.teller.Teller.{Teller}
use Rattle.inst_hub.specs.Calls.{IsTellerOf}
use Rattle.inst_loads.specs.declared.hub.job.HubJob.{HubJob}

-- The parts of the hub's row that a teller has.
abbrev pub parts_of_one : Teller → ℕ
parts_of_one t = (view_of t.seat).parts

-- The sum of the parts that the jobs' tellers have.
abbrev pub parts_of_jobs : List HubJob → ℕ
parts_of_jobs jobs = sum_by (λ job. (view_of job.teller.seat).parts) jobs

-- The second is a teller of the hub with as many parts as the first.
abbrev pub IsStill : Hub → Teller → Teller → Type 0
IsStill h t u = IsTellerOf h u × (parts_of_one u ≡ parts_of_one t)

abbrev pub AreJobsOf : Hub → List HubJob → Type 0
AreJobsOf h jobs = (i : ℕ) (job : HubJob) → slice_get jobs i ≡ Some job → IsTellerOf h job.teller

-- The jobs after have tellers of the hub, and together as many parts as the jobs before.
abbrev pub AreStill : Hub → List HubJob → List HubJob → Type 0
AreStill h before after = AreJobsOf h after × (parts_of_jobs after ≡ parts_of_jobs before)

-- The teller and the jobs' tellers have all parts together.
abbrev pub HaveAll : Teller → List HubJob → Type 0
HaveAll t jobs = parts_of_jobs jobs + parts_of_one t ≡ MOST_SEATS
