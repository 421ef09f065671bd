-- What each thread of a crew begins with and does. A choice of this hub.
use Rattle.std.specs.Prelude.{◌≡◌, ℕ, ◌-◌, ◌^◌, min, List, [], ◌∷◌, ◌++◌, map, length, sum_by}
use Rattle.std.specs.Prelude.{slice_get, Some, Result, IfOk}
use Rattle.std.specs.declared.alloc.AllocError.{AllocError}
use Rattle.inst_command.specs.declared.place.Place.{Place}
use Rattle.inst_command.specs.declared.outcome.State.{State}
use Rattle.inst_desk.specs.declared.desk.Desk.{Desk}
use Rattle.inst_desk.specs.declared.hand.Hand.{Hand}
use Rattle.inst_command.specs.declared.ask.Ask.{Ask}
use Rattle.inst_desk.specs.declared.job.Job.{Job}
use Rattle.inst_desk.specs.Desk.{IsHandOf, jobs_taken, WasEmpty}
use Rattle.inst_hub.specs.declared.hub.Hub.{Hub}
use Rattle.inst_hub.specs.declared.teller.Teller.{Teller}
use Rattle.inst_hub.specs.Calls.{IsTellerOf}
use Rattle.inst_crew.specs.declared.crew.Crew.{Crew}
use Rattle.inst_crew.specs.declared.shift.Shift.{Shift}
use Rattle.inst_crew.specs.declared.worker.Worker.{Worker}
use Rattle.inst_crew.specs.Crew.{fitting}
use Rattle.inst_crew.specs.Later.{IsLaterHand, IsLaterTeller}
use Rattle.inst_crew.specs.Served.{IsServed, ServesJob}
use Rattle.inst_crew.specs.inner.Seen.{AreSeen}

-- The hands of the workers.
abbrev pub hands_of : List Worker → List Hand
hands_of workers = map (λ w. w.hand) workers

-- The tellers of the workers.
abbrev pub workers_tellers : List Worker → List Teller
workers_tellers workers = map (λ w. w.teller) workers

-- The worker has a hand of the desk and a teller of the hub.
pub record HasHandAndTeller (hub : Hub) (d : Desk) (w : Worker) : Type 0 where
  pub hand : IsHandOf d w.hand
  pub teller : IsTellerOf hub w.teller

-- Each of these workers does.
abbrev pub AreReady : Hub → Desk → List Worker → Type 0
AreReady hub d workers =
    (i : ℕ) (w : Worker) → slice_get workers i ≡ Some w → HasHandAndTeller hub d w

-- From s to r the ask was put to the hub, and the state of its transfer was kept.
abbrev pub ServesOne : Hub → Ask → Shift → Shift → Type 0
ServesOne hub ask s r =
    (more : List (Place × State)) × (r.states.items ≡ s.states.items ++ more)
    × IsServed hub ask s.teller r.teller more

-- The jobs that the worker's hand took were served.
abbrev pub ServesAll : Hub → Worker → Shift → Type 0
ServesAll hub w s =
    (jobs : List Job) × (jobs_taken s.hand ≡ jobs_taken w.hand ++ jobs)
    × ServesJob hub jobs w.teller s.teller s.states.items

-- What a worker has done so far: the fitting jobs that its hand took are answered, and the states
-- that it kept are known.
pub record Works (hub : Hub) (d : Desk) (w : Worker) (s : Shift) : Type 0 where
  pub hand : IsLaterHand d w.hand s.hand
  pub teller : IsLaterTeller hub w.teller s.teller
  pub answered : s.answered
      ≡ min (fitting hub.settings (jobs_taken s.hand)
      - fitting hub.settings (jobs_taken w.hand)) (2 ^ 64 - 1)
  pub states : AreSeen s.teller s.states.items
  pub served : ServesAll hub w s

-- The same, and then the desk was empty.
pub record HasEndedShift (hub : Hub) (d : Desk) (w : Worker) (s : Shift) : Type 0 where
  pub works : Works hub d w s
  pub emptied : WasEmpty s.hand

-- Each of these worked, in order, unless it failed to allocate.
pub record AllWork (hub : Hub) (d : Desk) (workers : List Worker)
    (results : List (Result Shift AllocError)) : Type 0 where
  pub enough : length results ≡ length workers
  pub each : (i : ℕ) (w : Worker) (r : Result Shift AllocError) → slice_get workers i ≡ Some w →
      slice_get results i ≡ Some r → IfOk r (HasEndedShift hub d w)

-- The states of all of these.
abbrev pub states_of : List Shift → List (Place × State)
states_of [] = []
states_of (s ∷ ss) = s.states.items ++ states_of ss

-- The crew is what these did together.
pub record IsGathered (shifts : List Shift) (crew : Crew) : Type 0 where
  pub answered : crew.answered ≡ min (sum_by (λ s. s.answered) shifts) (2 ^ 64 - 1)
  pub states : crew.states.items ≡ states_of shifts
  pub hands : crew.hands.items ≡ map (λ s. s.hand) shifts
  pub tellers : crew.tellers.items ≡ map (λ s. s.teller) shifts
