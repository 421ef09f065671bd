-- What a command causes under the other side's lock: a taken transfer is delivered to its
-- beneficiary, and the other side learns an outcome. The time of this is a choice of this hub.
use Rattle.std.specs.Prelude.{ℕ, Bool, is_some, List, Option, Some, None, Result, Ok, Err}
use Rattle.std.specs.declared.alloc.AllocError.{AllocError}
use Rattle.inst_command.specs.declared.command.Command.{Command}
use Rattle.inst_command.specs.declared.command.Command.TheVariants.{Submit, Confirm, Reject}
use Rattle.inst_command.specs.declared.command.Command.TheVariants.{Investigate}
use Rattle.inst_command.specs.declared.outcome.State.TheVariants.{Decided as IsDecided}
use Rattle.inst_command.specs.declared.reply.Reply.{Reply}
use Rattle.inst_command.specs.declared.reply.Reply.TheVariants.{State}
use Rattle.inst_command.specs.declared.place.Place.{Place}
use Rattle.inst_board.specs.declared.look.Look.{Look}
use Rattle.inst_board.specs.Learning.{Looks}
use Rattle.inst_cell.specs.declared.shared_board.SharedBoard.{SharedBoard}
use Rattle.inst_cell.specs.Held.{settings_of, knows, has_role, stood}
use Rattle.inst_journal.specs.declared.event.Event.{Event}
use Rattle.inst_ledger.specs.Beneficiary.{beneficiary_of}
use Rattle.inst_slot.specs.Telling.{delivery, with_delivery, resolution, with_event, Keeps}
use Rattle.inst_participant.specs.declared.participant.Participant.{Participant}
use Rattle.inst_participant.specs.declared.follow_up.FollowUpKind.{FollowUpKind}
use Rattle.inst_participant.specs.declared.follow_up.FollowUp.{FollowUp}
use Rattle.inst_participant.specs.declared.follow_up.FollowUpKind.TheVariants.{Deliver, Learn}

-- This participant, if any, learns the outcome of the place.
abbrev pub learns : Option ℕ → Place → Option FollowUp
learns (Some who) k = Some (record { who = who; kind = Learn; place = k })
learns None k = None

-- The follow-up of a command with this reply and ticket, if the asker's history is then K. The
-- beneficiary receives what was taken; the originator learns the answer to a confirmation or
-- rejection; the beneficiary learns an outcome that an investigation returns. There is none without
-- a ticket.
abbrev pub follow_up_of : List Event → Command → Reply → Option Place → Option FollowUp
follow_up_of K (Submit s) reply (Some k) = Some (record { who = s.to; kind = Deliver; place = k })
follow_up_of K (Confirm from id) reply (Some k) = learns (Some from) k
follow_up_of K (Reject from id reason) reply (Some k) = learns (Some from) k
follow_up_of K (Investigate id) (State from asked (IsDecided outcome)) (Some k) =
    learns (beneficiary_of id K) k
follow_up_of K command reply ticket = None

-- The follow-up of an answer. A failed command has none.
abbrev pub follow_up_after : List Event → Command → Result (Reply × Option Place) AllocError →
    Option FollowUp
follow_up_after K command (Ok answer) = follow_up_of K command answer.0 answer.1
follow_up_after K command (Err fault) = None

-- From board b to board c the place was looked at, and showed this.
abbrev pub ShowsLook : SharedBoard → Place → Look → SharedBoard → Type 0
ShowsLook b k look c = Looks (settings_of b).margin knows has_role stood b k look c

-- The participant receives the transfer of the place, or learns its outcome.
abbrev pub Does : FollowUpKind → Participant → Place → Result Bool AllocError → Participant → Type 0
Does Deliver x k result y = (look : Look) × ShowsLook x.board k look y.board
    × Keeps (is_some (delivery x.slot k look)) x.slot
    (with_delivery x.slot k (delivery x.slot k look)) result y.slot
Does Learn x k result y = (look : Look) × ShowsLook x.board k look y.board
    × Keeps (is_some (resolution x.slot k look)) x.slot
    (with_event x.slot (resolution x.slot k look))
    result y.slot
