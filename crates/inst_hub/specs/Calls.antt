-- What a teller of a hub can rely on when it calls: the reply is the model's on a history that
-- extends all that the teller has seen of it, and the teller loses no knowledge. A choice of this
-- hub.
use Rattle.std.specs.Prelude.{◌≡◌, ◌⊎◌, ◌↔◌, ℕ, Bool, List, [], ◌∷◌, ◌++◌, slice_get, Option, Some}
use Rattle.std.specs.Prelude.{None, Result, Ok, Err, IfOk, OnErr, alloc_error}
use Rattle.std.specs.declared.alloc.AllocError.{AllocError}
use Rattle.inst_command.specs.declared.ask.Ask.{Ask}
use Rattle.inst_command.specs.declared.reply.Reply.{Reply}
use Rattle.inst_board.specs.declared.about.Fact.{Fact}
use Rattle.inst_command.specs.declared.place.Place.{Place}
use Rattle.inst_cell.specs.Held.{AtOneTable}
use Rattle.inst_cell.specs.Seen.{board_of_sight, sight_knows}
use Rattle.inst_journal.specs.declared.event.Event.{Event}
use Rattle.inst_journal.specs.Sound.{IsSound}
use Rattle.inst_row.specs.declared.view.Front.{Front}
use Rattle.inst_row.specs.View.{front}
use Rattle.inst_row.specs.Row.{row_id, key_of}
use Rattle.inst_row.specs.Seated.{IsOn, IsFree, HasSeen, GoesOn, view_of}
use Rattle.inst_hub.specs.declared.hub.Hub.{Hub}
use Rattle.inst_participant.specs.declared.participant.Participant.{Participant}
use Rattle.inst_hub.specs.declared.teller.Teller.{Teller}
use Rattle.inst_hub.specs.Founding.{IsSince}
use Rattle.inst_participant.specs.declared.follow_up.FollowUp.{FollowUp}
use Rattle.inst_participant.specs.Answers.{Answered, IsTicket}
use Rattle.inst_participant.specs.Following.{follow_up_of, Does}
use Rattle.inst_participant.specs.Serving.{Serves}

-- The teller belongs to this hub: it has a seat on the hub's row, has no lock, and sees the hub's
-- words.
pub record IsTellerOf (h : Hub) (t : Teller) : Type 0 where
  pub on : IsOn (row_id h.row) (key_of h.row) t.seat
  pub free : IsFree t.seat
  pub one : AtOneTable (key_of h.row).words.value (board_of_sight t.sight)

-- These tellers belong to this hub.
abbrev pub AreOf : Hub → List Teller → Type 0
AreOf h tellers = (i : ℕ) (t : Teller) → slice_get tellers i ≡ Some t → IsTellerOf h t

-- The teller knows this fact of a place.
abbrev pub knows_of : Teller → Fact → Type 0
knows_of t f = sight_knows t.sight f

-- The teller loses no knowledge, of places or of histories, and keeps its parts of the row.
pub record TellerKnowsMore (t u : Teller) : Type 0 where
  pub facts : (f : Fact) → knows_of t f → knows_of u f
  pub fronts : (p : ℕ) (J : List Event) → HasSeen p J t.seat → HasSeen p J u.seat
  pub parts : (view_of u.seat).parts ≡ (view_of t.seat).parts

-- The teller knows exactly what either of these knew, and keeps its parts.
pub record KnowBoth (t other u : Teller) : Type 0 where
  pub facts : (f : Fact) → knows_of u f ↔ (knows_of t f ⊎ knows_of other f)
  pub fronts : (p : ℕ) (J : List Event) → HasSeen p J u.seat ↔
      (HasSeen p J t.seat ⊎ HasSeen p J other.seat)
  pub parts : (view_of u.seat).parts ≡ (view_of t.seat).parts

-- What the teller has seen behind the locks, in order.
abbrev pub fronts_seen : Teller → List (Front Event)
fronts_seen t = (view_of t.seat).fronts

-- The follow-up was tried, under one lock, and nothing else was done.
-- - found, left: the participant as it was found behind that lock, and as it was left.
-- - behind: it is the right participant, and nothing was opened since the hub's opening.
-- - goes_on: the history that was found extends all that the teller had seen of it.
-- - does: the participant did the follow-up, or failed to allocate.
-- - seen: the teller has seen these two histories.
pub record IsDone (h : Hub) (f : FollowUp) (t : Teller) (fronts : List (Front Event)) : Type 0 where
  pub found : Participant
  pub left : Participant
  pub behind : IsSince (key_of h.row) f.who found
  pub goes_on : GoesOn f.who found.slot.events t.seat
  pub does : (result : Result Bool AllocError) × Does f.kind found f.place result left
  pub seen : fronts ≡ front f.who found.slot.events ∷ front f.who left.slot.events ∷ []

-- What the teller sees of a follow-up: nothing if there is none.
abbrev pub IsFollowed : Hub → Option FollowUp → Teller → List (Front Event) → Type 0
IsFollowed h None t fronts = fronts ≡ []
IsFollowed h (Some f) t fronts = IsDone h f t fronts

-- A call of the ask gets this answer.
-- - found, left: the asker as it was found behind its lock, and as it was left.
-- - behind: it is the asker, and nothing was opened since the hub's opening.
-- - goes_on: the history that was found extends all that the teller had seen of it.
-- - seen: the teller has seen these two histories, then the follow-up's, and nothing else.
-- - serves: the asker's slot answered the ask, and nothing else changed.
-- - answered, ticket: the reply is the model's, with its ticket.
pub record IsCall (h : Hub) (t : Teller) (ask : Ask) (answer : Reply
    × Option Place) (fronts : List (Front Event)) (u : Teller) : Type 0 where
  pub found : Participant
  pub left : Participant
  pub behind : IsSince (key_of h.row) ask.who found
  pub sound : IsSound h.settings ask.who found.slot.events
  pub goes_on : GoesOn ask.who found.slot.events t.seat
  pub seen : fronts_seen u
      ≡ fronts_seen t ++ front ask.who found.slot.events ∷ front ask.who left.slot.events ∷ fronts
  pub serves : Serves found ask (Ok answer.0) left
  pub answered : Answered h.settings ask.who found.slot.events ask answer.0 left.slot.events
  pub ticket : IsTicket (knows_of u) h.settings ask.who ask.command left.slot.events answer.0
      answer.1

-- A call with its follow-up.
abbrev pub Calls : Hub → Teller → Ask → Reply × Option Place → Teller → Type 0
Calls h t ask answer u = (fronts : List (Front Event)) × (call : IsCall h t ask answer fronts u)
    × IsFollowed h (follow_up_of call.left.slot.events ask.command answer.0 answer.1) t fronts

-- A call that failed to allocate. The asker's slot was found, with nothing opened since the hub's
-- opening, and left unchanged; at most the place that the ask decides was looked at.
pub record IsLeftUnanswered (h : Hub) (t : Teller) (ask : Ask) (u : Teller) : Type 0 where
  pub found : Participant
  pub left : Participant
  pub behind : IsSince (key_of h.row) ask.who found
  pub goes_on : GoesOn ask.who found.slot.events t.seat
  pub seen : fronts_seen u
      ≡ fronts_seen t ++ front ask.who found.slot.events ∷ front ask.who left.slot.events ∷ []
  pub serves : Serves found ask (Err alloc_error) left
  pub same : left.slot ≡ found.slot

-- The contract of a call, with a gate or without.
-- - of, knows: the teller still belongs to the hub, and loses no knowledge.
-- - call: the reply is the model's, and its follow-up was tried.
-- - left: if allocation failed, the asker's slot is unchanged.
pub record HasCalled (h : Hub) (t : Teller) (ask : Ask) (result : Result (Reply
    × Option Place) AllocError) (u : Teller) : Type 0 where
  pub of : IsTellerOf h u
  pub knows : TellerKnowsMore t u
  pub call : IfOk result (λ answer. Calls h t ask answer u)
  pub left : OnErr result (IsLeftUnanswered h t ask u)
