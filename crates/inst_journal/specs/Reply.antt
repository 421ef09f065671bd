-- The reply to a command and the event that it adds to the history: the first case that applies, in
-- the one order of refusals. Confirmations, rejections and investigations are the scheme's
-- (EPC004-16, chapter 4: processing flow); the order, the repeats and the capacities are a choice
-- of this hub.
use Rattle.std.specs.Prelude.{ℕ, Bool, true, false, ◌==◌, nat_lt, nat_le, if◌then◌else◌, List, []}
use Rattle.std.specs.Prelude.{◌∷◌, ◌++◌, length}
use Rattle.std.specs.Prelude.{take, drop, sum_by, Option, Some, None, Result, Ok, Err}
use Rattle.std.specs.List.{filter_map}
use Rattle.inst_base.specs.TimeLimit.{deadline_of, is_due, is_ahead}
use Rattle.inst_base.specs.declared.fault.Fault.{Fault}
use Rattle.inst_base.specs.declared.fault.Fault.TheVariants.{SelfTransfer, UnknownTransfer}
use Rattle.inst_base.specs.declared.fault.Fault.TheVariants.{Duplicate, StampAhead, Expired, Full}
use Rattle.inst_base.specs.declared.fault.Fault.TheVariants.{Shortage}
use Rattle.inst_settings.specs.Settings.{HubSettings}
use Rattle.inst_command.specs.declared.command.Command.{Command}
use Rattle.inst_command.specs.declared.command.Command.TheVariants.{Fund, Defund, Submit, Confirm}
use Rattle.inst_command.specs.declared.command.Command.TheVariants.{Reject}
use Rattle.inst_command.specs.declared.command.Command.TheVariants.{Investigate, Fetch, Query}
use Rattle.inst_command.specs.declared.funding.Funding.{Funding}
use Rattle.inst_command.specs.declared.query.Query.{Query as QueryValue}
use Rattle.inst_command.specs.declared.query.Query.TheVariants.{Position as AskPosition}
use Rattle.inst_command.specs.declared.query.Query.TheVariants.{Statement as AskStatement}
use Rattle.inst_command.specs.declared.submission.Submission.{Submission}
use Rattle.inst_command.specs.declared.entry.Entry.{Entry}
use Rattle.inst_command.specs.declared.outcome.Outcome.{Outcome}
use Rattle.inst_command.specs.declared.outcome.State.TheVariants.{Pending, Decided}
use Rattle.inst_command.specs.declared.reply.Reply.{Reply}
use Rattle.inst_command.specs.declared.reply.Reply.TheVariants.{Done, Taken as TakenReply, State}
use Rattle.inst_command.specs.declared.reply.Reply.TheVariants.{Inbox, Position, Statement}
use Rattle.inst_journal.specs.declared.event.Event.{Event}
use Rattle.inst_journal.specs.declared.handle.Handled.{Handled}
use Rattle.inst_journal.specs.declared.event.Event.TheVariants.{Funded, Defunded, Taken, Forwarded}
use Rattle.inst_journal.specs.declared.event.Event.TheVariants.{Booked, Fetched}
use Rattle.inst_journal.specs.Booked.{is_taken, is_forwarded, booked}
use Rattle.inst_journal.specs.Money.{reserved, position, available}
use Rattle.inst_journal.specs.Opened.{live_submissions}
use Rattle.inst_journal.specs.Keys.{is_fund_repeat, is_defund_repeat, is_submission_repeat}
use Rattle.inst_journal.specs.Keys.{has_reference, fundings}
use Rattle.inst_journal.specs.Statement.{statement_part}

-- A reply that adds no event.
abbrev pub reply_without_event : Reply → Result Handled Fault
reply_without_event reply = Ok (record { reply = reply; kept = None })

-- A reply that adds an event.
abbrev pub reply_with_event : Event → Reply → Result Handled Fault
reply_with_event event reply = Ok (record { reply = reply; kept = Some event })

-- True for a new fund or defund command, false for a repeat, or the refusal.
abbrev pub is_new_funding : HubSettings → List Event → List ℕ → Bool → Result Bool Fault
is_new_funding s J reference is_repeat =
    if is_repeat then Ok false
    else (if has_reference reference J then Err Duplicate
    else (if nat_le s.fundings (fundings J) then Err Full
    else Ok true))

-- A fund or defund command: a refusal, the reply to a repeat, or the result of a new command.
abbrev pub funding : List ℕ → Result Handled Fault → Result Bool Fault → Result Handled Fault
funding reference new (Err fault) = Err fault
funding reference new (Ok false) = reply_without_event (Done reference)
funding reference new (Ok true) = new

-- A fund command.
abbrev pub fund : HubSettings → List Event → Funding → Result Handled Fault
fund s J f =
    funding f.reference (reply_with_event (Funded f) (Done f.reference))
    (is_new_funding s J f.reference (is_fund_repeat f J))

-- A defund command: `Shortage` follows the other refusals.
abbrev pub defund : HubSettings → List Event → Funding → Result Handled Fault
defund s J f =
    funding f.reference (if nat_lt (available J) f.cents then Err Shortage
    else reply_with_event (Defunded f) (Done f.reference))
    (is_new_funding s J f.reference (is_defund_repeat f J))

-- A submission, with its refusals in order. A repeat is recognised before `Duplicate`.
abbrev pub submit : HubSettings → ℕ → List Event → ℕ → Submission → Result Handled Fault
submit s who J at x =
    let deadline = deadline_of s.limit x.stamp in
    if x.to == who then Err SelfTransfer
    else (if is_submission_repeat x J then reply_without_event (TakenReply x.id deadline)
    else (if is_taken x.id J then Err Duplicate
    else (if is_ahead s.ahead x.stamp at then Err StampAhead
    else (if is_due deadline at then Err Expired
    else (if nat_le s.places (live_submissions who J) then Err Full
    else (if nat_lt (available J) x.cents then Err Shortage
    else reply_with_event (Taken x.id x.to x.cents x.stamp) (TakenReply x.id deadline)))))))

-- The reply to a party: its booked outcome, else the one found, which it then books, else
-- `pending`.
abbrev pub state_reply : ℕ → List ℕ → Result Handled Fault → Option Outcome → Option Outcome →
    Result Handled Fault
state_reply from id pending (Some outcome) found = reply_without_event
    (State from id (Decided outcome))
state_reply from id pending None (Some outcome) =
    reply_with_event (Booked from id outcome) (State from id (Decided outcome))
state_reply from id pending None None = pending

-- The reply that a transfer is pending.
abbrev pub still_pending : ℕ → List ℕ → Result Handled Fault
still_pending from id = reply_without_event (State from id Pending)

-- The beneficiary's answer to a transfer that was forwarded to it.
abbrev pub answer_forwarded : List Event → ℕ → List ℕ → Result Handled Fault → Option Outcome →
    Result Handled Fault
answer_forwarded J from id pending found =
    if is_forwarded from id J then state_reply from id pending (booked from id J) found
    else Err UnknownTransfer

-- A confirmation. It is refused as too late if it leaves the transfer pending: it was read in the
-- margin.
abbrev pub confirm : List Event → ℕ → List ℕ → Option Outcome → Result Handled Fault
confirm J from id found = answer_forwarded J from id (Err Expired) found

-- A rejection, which replies that the transfer is pending if it leaves it so.
abbrev pub reject : List Event → ℕ → List ℕ → Option Outcome → Result Handled Fault
reject J from id found = answer_forwarded J from id (still_pending from id) found

-- The originator's investigation of its transfer.
abbrev pub investigate : ℕ → List Event → List ℕ → Option Outcome → Result Handled Fault
investigate who J id found =
    if is_taken id J then state_reply who id (still_pending who id) (booked who id J) found
    else Err UnknownTransfer

-- The entry of a forwarded transfer.
abbrev pub entry_of : Event → Option Entry
entry_of (Forwarded from id cents deadline) =
    Some (record { from = from; id = id; cents = cents; deadline = deadline })
entry_of _ = None

-- All forwarded transfers, in order of arrival.
abbrev pub inbox : List Event → List Entry
inbox J = filter_map entry_of J

-- The number of entries that the event fetches.
abbrev pub handed_out : Event → ℕ
handed_out (Fetched count) = count
handed_out _ = 0

-- The forwarded transfers that weren't fetched yet.
abbrev pub unread : List Event → List Entry
unread J = drop (sum_by handed_out J) (inbox J)

-- Fetches these entries.
abbrev pub hand_out : List Entry → Result Handled Fault
hand_out [] = reply_without_event (Inbox [])
hand_out (entry ∷ entries) = reply_with_event (Fetched (length (entry ∷ entries)))
    (Inbox (entry ∷ entries))

-- The reply to a query; it adds no event.
abbrev pub answer_query : List Event → QueryValue → Reply
answer_query J AskPosition = Position (position J) (reserved J) (available J)
answer_query J (AskStatement skip count) = Statement (statement_part J skip count)

-- The reply to a command of `who`, read at `at`, and its event, if the command's transfer is found
-- to have this outcome.
abbrev pub handle : HubSettings → ℕ → List Event → Command → ℕ → Option Outcome →
    Result Handled Fault
handle s who J (Fund funding) at found = fund s J funding
handle s who J (Defund funding) at found = defund s J funding
handle s who J (Submit submission) at found = submit s who J at submission
handle s who J (Confirm from id) at found = confirm J from id found
handle s who J (Reject from id reason) at found = reject J from id found
handle s who J (Investigate id) at found = investigate who J id found
handle s who J (Fetch max) at found = hand_out (take max (unread J))
handle s who J (Query query) at found = reply_without_event (answer_query J query)

-- The events that a command adds: one at most.
abbrev pub kept_event : Option Event → List Event
kept_event None = []
kept_event (Some event) = event ∷ []

-- The events of the result; a refusal adds none.
abbrev pub kept_events : Result Handled Fault → List Event
kept_events (Ok handled) = kept_event handled.kept
kept_events (Err fault) = []

-- The reply, or the refusal.
abbrev pub reply_result : Result Handled Fault → Result Reply Fault
reply_result (Ok handled) = Ok handled.reply
reply_result (Err fault) = Err fault

-- The reply to a command of `who` on its history, or the refusal.
abbrev pub reply : HubSettings → ℕ → List Event → Command → ℕ → Option Outcome → Result Reply Fault
reply s who J command at found = reply_result (handle s who J command at found)

-- The history after the command.
abbrev pub history_after : HubSettings → ℕ → List Event → Command → ℕ → Option Outcome → List Event
history_after s who J command at found = J ++ kept_events (handle s who J command at found)

-- True if the reply to the query is a copy of lines, which needs an allocation.
abbrev pub copies_lines : QueryValue → Bool
copies_lines AskPosition = false
copies_lines (AskStatement skip count) = true

-- True if the reply to the command is a copy of unread entries or of lines, which needs an
-- allocation.
abbrev pub copies : List Event → Command → Bool
copies J (Fetch max) = nat_lt 0 (length (unread J))
copies J (Query query) = copies_lines query
copies J _ = false
