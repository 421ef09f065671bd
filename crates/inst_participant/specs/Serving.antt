-- How a participant serves an ask under its lock: its slot answers the ask over its board, and
-- nothing else changes, so no other transfer is decided. Refusals are replies. A choice of this
-- hub.
use Rattle.std.specs.Prelude.{◌≡◌, true, Option, Result, Ok, Err, alloc_error}
use Rattle.std.specs.declared.alloc.AllocError.{AllocError}
use Rattle.inst_base.specs.declared.fault.Fault.{Fault}
use Rattle.inst_command.specs.declared.ask.Ask.{Ask}
use Rattle.inst_command.specs.declared.place.Place.{Place}
use Rattle.inst_command.specs.declared.reply.Reply.{Reply}
use Rattle.inst_command.specs.Ask.{ask_fits}
use Rattle.inst_command.specs.Refusals.{refusals_told}
use Rattle.inst_board.specs.declared.about.Fact.{Fact}
use Rattle.inst_board.specs.Learning.{KnowTheSame}
use Rattle.inst_cell.specs.declared.shared_board.SharedBoard.{SharedBoard}
use Rattle.inst_cell.specs.Held.{settings_of, knows, has_role, stood, Stays}
use Rattle.inst_journal.specs.Sound.{IsSound}
use Rattle.inst_slot.specs.Asking.{Applies}
use Rattle.inst_participant.specs.declared.participant.Participant.{Participant}
use Rattle.inst_participant.specs.Answers.{Answered, IsTicket}
use Rattle.inst_participant.specs.LockLaw.{IsReady, IsLater, HistoryGrows}

-- From x to y the ask is served with this answer.
-- - passes_on: it is the slot's answer, with a refusal as a reply.
-- - applies: the slot answered over its board, and stored and decided what the ask requires and
-- nothing else.
-- - same: the board knows no more than after that.
pub record Serves (x : Participant) (ask : Ask) (answer : Result Reply AllocError) (y : Participant)
    : Type 0 where
  pub result : Result Reply Fault
  pub board : SharedBoard
  pub passes_on : answer ≡ refusals_told result
  pub applies : Applies (settings_of x.board).margin knows has_role stood Stays x.board x.slot ask
      result board y.slot
  pub same : KnowTheSame knows board y.board

-- The participant may serve the ask: it is its own, and fits the hub.
pub record MayServe (x : Participant) (ask : Ask) : Type 0 where
  pub ready : IsReady x
  pub own : ask.who ≡ x.slot.who
  pub fits : ask_fits x.slot.settings ask ≡ true

-- From x to y the participant stays the same and ready, and its history, which is sound, grows.
pub record StaysReady (x y : Participant) : Type 0 where
  pub ready : IsReady y
  pub later : IsLater x y
  pub grows : HistoryGrows x y
  pub sound : IsSound x.slot.settings x.slot.who x.slot.events

-- From x to y the ask gets the model's reply and its ticket, if this is what is seen of places.
pub record AnswersWithTicket (x : Participant) (ask : Ask) (answer : Reply × Option Place)
    (sees : Fact → Type 0) (y : Participant) : Type 0 where
  pub serves : Serves x ask (Ok answer.0) y
  pub answered : Answered x.slot.settings x.slot.who x.slot.events ask answer.0 y.slot.events
  pub ticket : IsTicket sees x.slot.settings x.slot.who ask.command y.slot.events answer.0 answer.1

-- From x to y allocation failed, and the books are unchanged.
pub record LeavesUnanswered (x : Participant) (ask : Ask) (y : Participant) : Type 0 where
  pub serves : Serves x ask (Err alloc_error) y
  pub same : y.slot ≡ x.slot
