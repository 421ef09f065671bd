-- A desk and its hands as contracts see them. Desks are a choice of this hub.
use Rattle.std.specs.Prelude.{◌≡◌, ℕ, ◌<◌, ◌≤◌, List, [], ◌∷◌, ◌++◌, length, sum_by, slice_get}
use Rattle.std.specs.Prelude.{Some}
use Rattle.crossbeam_queue.specs.Passes.{view, IsPassOf, ruled_capacity}
use Rattle.inst_desk.specs.declared.account.Account.{Account}
use Rattle.inst_desk.specs.declared.desk.Desk.{Desk}
use Rattle.inst_desk.specs.declared.hand.Hand.{Hand}
use Rattle.inst_desk.specs.declared.job.Job.{Job}
use Rattle.inst_desk.specs.Account.{MayLie, LiesFirst, all_of}
use Rattle.inst_desk.specs.declared.desk.opening.TheConstants.{MOST_HANDS, MOST_ROOM}

-- The most jobs that the desk holds.
abbrev pub capacity_of : Desk → ℕ
capacity_of d = ruled_capacity d.queue

-- What the hand did.
abbrev pub account_of : Hand → Account
account_of h = view h.seat

-- The jobs that the hand put, oldest first.
abbrev pub put_of : Hand → List Job
put_of h = (account_of h).put

-- The jobs that the hand took, oldest first.
abbrev pub jobs_taken : Hand → List Job
jobs_taken h = (account_of h).taken

-- The hand's parts of the desk.
abbrev pub hand_parts : Hand → ℕ
hand_parts h = (account_of h).parts

-- The hand belongs to this desk.
pub record IsHandOf (d : Desk) (h : Hand) : Type 0 where
  pub on : IsPassOf d.queue h.seat
  pub some_part : 0 < hand_parts h

-- These hands belong to this desk.
abbrev pub AreHandsOf : Desk → List Hand → Type 0
AreHandsOf d hands = (i : ℕ) (h : Hand) → slice_get hands i ≡ Some h → IsHandOf d h

-- The same hand, later.
pub record IsSameHand (g h : Hand) : Type 0 where
  pub desk : h.seat.table_id ≡ g.seat.table_id
  pub number : h.seat.id ≡ g.seat.id
  pub parts : hand_parts h ≡ hand_parts g

-- The jobs that these hands put.
abbrev pub put_together : List Hand → List Job
put_together hands = all_of put_of hands

-- The jobs that these hands took.
abbrev pub taken_together : List Hand → List Job
taken_together hands = all_of jobs_taken hands

-- All hands of the desk.
pub record AreAllHandsOf (d : Desk) (hands : List Hand) : Type 0 where
  pub of : AreHandsOf d hands
  pub all : sum_by hand_parts hands ≡ MOST_HANDS

-- A hand that neither put nor took.
abbrev pub IsNewHand : Hand → Type 0
IsNewHand h = (put_of h ≡ []) × (jobs_taken h ≡ [])

-- The desk was full at a moment, given what this hand did until then.
abbrev pub WasFull : Desk → Hand → Type 0
WasFull d h = (jobs : List Job) × (length jobs ≡ capacity_of d) × MayLie (account_of h) jobs

-- The desk was empty at a moment, given what this hand did until then.
abbrev pub WasEmpty : Hand → Type 0
WasEmpty h = MayLie (account_of h) []

-- The hand put the job, after all others that it put.
pub record PutsJob (g h : Hand) (job : Job) : Type 0 where
  pub put : put_of h ≡ put_of g ++ job ∷ []
  pub taken : jobs_taken h ≡ jobs_taken g

-- The hand took the job, which was first on the desk.
pub record TakesJob (g h : Hand) (job : Job) : Type 0 where
  pub put : put_of h ≡ put_of g
  pub taken : jobs_taken h ≡ jobs_taken g ++ job ∷ []
  pub lay : LiesFirst (account_of g) job

-- The hand did nothing, because the desk was full at a moment of the call.
pub record FindsFull (d : Desk) (g h : Hand) : Type 0 where
  pub put : put_of h ≡ put_of g
  pub taken : jobs_taken h ≡ jobs_taken g
  pub full : WasFull d g

-- The hand did nothing, because the desk was empty at a moment of the call.
pub record FindsEmpty (g h : Hand) : Type 0 where
  pub put : put_of h ≡ put_of g
  pub taken : jobs_taken h ≡ jobs_taken g
  pub empty : WasEmpty g

-- The numbers of jobs and hands that a desk may open with.
pub record MayOpenDesk (capacity hands : ℕ) : Type 0 where
  pub some_room : 0 < capacity
  pub most_room : capacity ≤ MOST_ROOM
  pub some_hand : 0 < hands
  pub most_hands : hands ≤ MOST_HANDS
