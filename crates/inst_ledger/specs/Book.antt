-- The contract's view of a ledger: the participant's book, its table, and its capacity for events
-- of no new key. Storing a history is a choice of this hub.
use Rattle.std.specs.Prelude.{ℕ, Bool, true, false, List, [], ◌∷◌, ◌++◌, Option, Some, None, Result}
use Rattle.std.specs.Prelude.{Ok, Err}
use Rattle.inst_base.specs.TimeLimit.{deadline_of}
use Rattle.inst_base.specs.declared.fault.Fault.{Fault}
use Rattle.inst_settings.specs.Settings.{HubSettings}
use Rattle.inst_journal.specs.declared.event.Event.{Event}
use Rattle.inst_command.specs.declared.command.Command.{Command}
use Rattle.inst_command.specs.declared.outcome.Outcome.{Outcome}
use Rattle.inst_command.specs.declared.reply.Reply.TheVariants.{Taken as TakenReply}
use Rattle.inst_command.specs.declared.submission.Submission.{Submission}
use Rattle.inst_journal.specs.declared.handle.Handled.{Handled}
use Rattle.inst_transfers.specs.Held.{Held}
use Rattle.inst_journal.specs.Reply.{handle, reply_without_event, reply_with_event}
use Rattle.inst_journal.specs.Sound.{Fits}
use Rattle.inst_journal.specs.declared.event.Event.TheVariants.{Funded, Defunded, Taken, Forwarded}
use Rattle.inst_journal.specs.declared.event.Event.TheVariants.{Booked, Fetched, Opened}

-- A participant's history, with its number and the hub's settings.
pub record LedgerBook : Type 0 where
  pub settings : HubSettings
  pub who : ℕ
  pub events : List Event

-- The book with the table of its transfers, and the number of events of no new key (room) that can
-- be appended without allocating.
pub record BookAndRoom : Type 0 where
  pub book : LedgerBook
  pub table : Held
  pub room : ℕ

-- The book with one more event.
abbrev pub ledger_with_event : LedgerBook → Event → LedgerBook
ledger_with_event book event = record book { events = book.events ++ event ∷ [] }

-- True if the event brings a new key: a reference, or a transfer.
abbrev pub brings_key : Event → Bool
brings_key (Funded funding) = true
brings_key (Defunded funding) = true
brings_key (Taken id to cents stamp) = true
brings_key (Forwarded from id cents deadline) = true
brings_key (Booked from id outcome) = false
brings_key (Fetched count) = false
brings_key Opened = false

-- The reply to the participant's command on its book, and the event to append for it.
abbrev pub answer_to : LedgerBook → Command → ℕ → Option Outcome → Result Handled Fault
answer_to book command at found = handle book.settings book.who book.events command at found

-- The event of a taken submission.
abbrev pub submission_event : Submission → Event
submission_event x = Taken x.id x.to x.cents x.stamp

-- The reply to a submission, and its event, for each result of is_new_submission: refused, a
-- repeat, or new.
abbrev pub submission_result : HubSettings → Submission → Result Bool Fault → Result Handled Fault
submission_result s x (Err fault) = Err fault
submission_result s x (Ok false) = reply_without_event
    (TakenReply x.id (deadline_of s.limit x.stamp))
submission_result s x (Ok true) =
    reply_with_event (submission_event x) (TakenReply x.id (deadline_of s.limit x.stamp))

-- The event fits the book, if there is one.
abbrev pub MayKeep : LedgerBook → Option Event → Type 0
MayKeep book None = Unit {0}
MayKeep book (Some event) = Fits book.settings book.who book.events event
