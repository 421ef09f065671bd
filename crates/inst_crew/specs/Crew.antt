-- What a crew is given and what it does. Skipping jobs whose ask doesn't fit is a choice of this
-- hub.
use Rattle.std.specs.Prelude.{◌≡◌, ℕ, ◌+◌, ◌-◌, ◌^◌, ◌<◌, min, true, List, [], ◌∷◌, ◌++◌, length}
use Rattle.std.specs.Prelude.{filter, slice_get, sum_by, Option, Some, None, IfSome, Ok}
use Rattle.inst_settings.specs.Settings.{HubSettings, is_participant}
use Rattle.inst_command.specs.Ask.{ask_fits}
use Rattle.inst_desk.specs.declared.hand.Hand.{Hand}
use Rattle.inst_desk.specs.declared.job.Job.{Job}
use Rattle.inst_desk.specs.declared.desk.Desk.{Desk}
use Rattle.inst_desk.specs.Desk.{AreHandsOf, taken_together, hand_parts}
use Rattle.inst_hub.specs.declared.hub.Hub.{Hub}
use Rattle.inst_hub.specs.declared.teller.Teller.{Teller}
use Rattle.inst_hub.specs.Calls.{IsTellerOf, AreOf}
use Rattle.inst_hub.specs.Opening.{row_parts}
use Rattle.inst_hub.specs.Sweeping.{IsSweep}
use Rattle.inst_crew.specs.declared.crew.Crew.{Crew}
use Rattle.inst_crew.specs.declared.sweep.Sweep.{Sweep}
use Rattle.inst_crew.specs.declared.team.Team.{Team}
use Rattle.inst_crew.specs.Later.{Pairs, IsLaterHand, IsLaterTeller}
use Rattle.inst_crew.specs.Seen.{AreSeenByOne}
use Rattle.inst_crew.specs.Served.{AreServed}

-- The sweeper has a teller of the hub, and sweeps one of its participants.
pub record MaySweep (hub : Hub) (sweep : Sweep) : Type 0 where
  pub of : IsTellerOf hub sweep.teller
  pub participant : is_participant hub.settings sweep.who ≡ true

-- The sweeper's teller, if there is one.
abbrev pub sweeper_of : Option Sweep → List Teller
sweeper_of None = []
sweeper_of (Some sweep) = sweep.teller ∷ []

-- How many of the jobs have an ask that fits the hub.
abbrev pub fitting : HubSettings → List Job → ℕ
fitting s jobs = length (filter (λ job. ask_fits s job.ask) jobs)

-- How many more fitting jobs the hands have taken, at most 2^64 - 1.
abbrev pub answered_between : HubSettings → List Hand → List Hand → ℕ
answered_between s before after =
    min (fitting s (taken_together after) - fitting s (taken_together before)) (2 ^ 64 - 1)

-- The sweeper swept its participant once, at its clock reading, as its teller shows.
pub record HasSwept (hub : Hub) (sweep : Sweep) (u : Teller) : Type 0 where
  pub later : IsLaterTeller hub sweep.teller u
  pub count : ℕ
  pub swept : IsSweep hub sweep.teller sweep.who sweep.at (Ok count) u

-- The sweeper's teller after its sweep, if there is a sweeper.
abbrev pub IsSwept : Hub → Option Sweep → Option Teller → Type 0
IsSwept hub None teller = teller ≡ None
IsSwept hub (Some sweep) None = ⊥
IsSwept hub (Some sweep) (Some teller) = HasSwept hub sweep teller

-- Hands of the desk, with a teller of the hub each, and the sweeper, if there is one.
pub record IsTeamOf (hub : Hub) (d : Desk) (team : Team) : Type 0 where
  pub some : 0 < length team.hands.items
  pub each : length team.tellers.items ≡ length team.hands.items
  pub hands : AreHandsOf d team.hands.items
  pub tellers : AreOf hub team.tellers.items
  pub sweep : IfSome team.sweep (MaySweep hub)

-- All tellers of the team, the sweeper's last.
abbrev pub team_tellers : Team → List Teller
team_tellers team = team.tellers.items ++ sweeper_of team.sweep

-- What a crew did with a team.
-- - hands, tellers: each was returned, in the same order.
-- - answered: how many more fitting jobs the hands have taken.
-- - served: each fitting job that a hand took was put to the hub, through the teller at the same
-- position.
-- - states: each state that was kept is known to a teller.
-- - swept: the sweeper swept.
pub record HasWorked (hub : Hub) (d : Desk) (team : Team) (crew : Crew) : Type 0 where
  pub hands : Pairs (IsLaterHand d) team.hands.items crew.hands.items
  pub tellers : Pairs (IsLaterTeller hub) (team_tellers team) crew.tellers.items
  pub answered : crew.answered ≡ answered_between hub.settings team.hands.items crew.hands.items
  pub served : AreServed hub team.hands.items crew.hands.items team.tellers.items crew.tellers.items
      crew.states.items
  pub states : AreSeenByOne crew.tellers.items crew.states.items
  pub swept : IsSwept hub team.sweep (slice_get crew.tellers.items (length team.tellers.items))

-- All hands of the desk and tellers of the hub were returned, with the parts that the team had.
-- Follows from `HasWorked`.
pub record AreBack (hub : Hub) (d : Desk) (team : Team) (crew : Crew) : Type 0 where
  pub hands : AreHandsOf d crew.hands.items
  pub tellers : AreOf hub crew.tellers.items
  pub all_hands : length crew.hands.items ≡ length team.hands.items
  pub all_tellers : length crew.tellers.items
      ≡ length team.tellers.items + length (sweeper_of team.sweep)
  pub parts_of_hands : sum_by hand_parts crew.hands.items ≡ sum_by hand_parts team.hands.items
  pub parts_of_tellers : row_parts crew.tellers.items ≡ row_parts (team_tellers team)
