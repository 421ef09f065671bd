-- Replies as JSON objects: each is a table of its members, with the keys in byte order. Moments are
-- absolute milliseconds, amounts cents, and participants codes. The replies stand for the scheme's
-- answers and confirmations (EPC004-16, chapter 4: datasets); their form is a choice of this hub.
use Rattle.std.specs.Prelude.{ℕ, ◌+◌, ◌&&◌, Bool, true, false, List, [], ◌∷◌, map, codes}
use Rattle.std.specs.List.{list_all}
use Rattle.serde_json.specs.Data.{Data, object, array, string, boolean, number, unsigned, Items}
use Rattle.serde_json.specs.Data.{no_items, item, Members, no_members, member}
use Rattle.inst_base.specs.Fault.{number_of, name_of}
use Rattle.inst_base.specs.declared.fault.Fault.{Fault}
use Rattle.inst_settings.specs.Settings.{HubSettings, is_participant}
use Rattle.inst_command.specs.LineText.{code_numbered, line_text, line_fits}
use Rattle.inst_command.specs.declared.outcome.Outcome.TheVariants.{Accepted, Rejected, TimedOut}
use Rattle.inst_command.specs.declared.outcome.State.{State}
use Rattle.inst_command.specs.declared.outcome.State.TheVariants as state
use Rattle.inst_command.specs.declared.entry.Entry.{Entry}
use Rattle.inst_command.specs.declared.line.Line.{Line}
use Rattle.inst_command.specs.declared.reply.Reply.{Reply}
use Rattle.inst_command.specs.declared.reply.Reply.TheVariants as reply
use Rattle.inst_command.specs.declared.reply.Answer.{Answer}
use Rattle.inst_command.specs.declared.reply.Answer.TheVariants as answer

-- The members of an object, as a table.
abbrev pub members : List (List ℕ × Data) → Members
members [] = no_members
members (row ∷ rows) = member row.0 row.1 (members rows)

-- The items of an array.
abbrev pub items : List Data → Items
items [] = no_items
items (first ∷ rest) = item first (items rest)

-- A whole number.
abbrev pub whole : ℕ → Data
whole n = number (unsigned n)

-- The name of a reply.
abbrev pub reply_member : List ℕ → List ℕ × Data
reply_member name = (codes "reply", string name)

-- The reply to a fund or defund command.
abbrev pub done_data : List ℕ → Data
done_data reference = object (members (
    (codes "ref", string reference)
    ∷ reply_member (codes "done") ∷ []))

-- The reply to a submission.
abbrev pub taken_data : List ℕ → ℕ → Data
taken_data id deadline = object (members (
    (codes "deadline", whole deadline)
    ∷ (codes "id", string id)
    ∷ reply_member (codes "taken") ∷ []))

-- A state without a reason.
abbrev pub state_data : List ℕ → List ℕ → List ℕ → Data
state_data from id name = object (members (
    (codes "from", string from)
    ∷ (codes "id", string id)
    ∷ reply_member (codes "state")
    ∷ (codes "state", string name) ∷ []))

-- A rejected transfer, with the reason.
abbrev pub rejected_data : List ℕ → List ℕ → List ℕ → Data
rejected_data from id reason = object (members (
    (codes "from", string from)
    ∷ (codes "id", string id)
    ∷ (codes "reason", string reason)
    ∷ reply_member (codes "state")
    ∷ (codes "state", string (codes "rejected")) ∷ []))

-- The reply to a query of the position.
abbrev pub position_data : ℕ → ℕ → ℕ → Data
position_data position reserved available = object (members (
    (codes "available", whole available)
    ∷ (codes "position", whole position)
    ∷ reply_member (codes "position")
    ∷ (codes "reserved", whole reserved) ∷ []))

-- A refusal.
abbrev pub refused_data : Fault → Data
refused_data fault = object (members (
    (codes "fault", string (name_of fault))
    ∷ (codes "number", whole (number_of fault))
    ∷ reply_member (codes "refused") ∷ []))

-- An entry of an inbox, with the originator's code.
abbrev pub entry_members : ℕ → ℕ → List ℕ → List ℕ → Data
entry_members cents deadline from id = object (members (
    (codes "cents", whole cents)
    ∷ (codes "deadline", whole deadline)
    ∷ (codes "from", string from)
    ∷ (codes "id", string id) ∷ []))

-- An entry of an inbox.
abbrev pub entry_data : HubSettings → Entry → Data
entry_data s entry =
    entry_members entry.cents (s.base + entry.deadline) (code_numbered s entry.from) entry.id

-- The reply to a fetch.
abbrev pub inbox_data : HubSettings → List Entry → Data
inbox_data s entries = object (members (
    (codes "entries", array (items (map (entry_data s) entries)))
    ∷ reply_member (codes "inbox") ∷ []))

-- The reply to a query for statement lines.
abbrev pub statement_data : HubSettings → List Line → Data
statement_data s lines = object (members (
    (codes "lines", array (items (map (λ line. string (line_text s line)) lines)))
    ∷ reply_member (codes "statement") ∷ []))

-- The state of a transfer. There is no reply about an unused place.
abbrev pub state_members : List ℕ → List ℕ → State → Data
state_members from id state.Unused = state_data from id []
state_members from id state.Pending = state_data from id (codes "pending")
state_members from id (state.Decided Accepted) = state_data from id (codes "accepted")
state_members from id (state.Decided (Rejected reason)) = rejected_data from id reason
state_members from id (state.Decided TimedOut) = state_data from id (codes "timed_out")

-- A reply.
abbrev pub reply_data : HubSettings → Reply → Data
reply_data s (reply.Done reference) = done_data reference
reply_data s (reply.Taken id deadline) = taken_data id (s.base + deadline)
reply_data s (reply.State from id state) = state_members (code_numbered s from) id state
reply_data s (reply.Inbox entries) = inbox_data s entries
reply_data s (reply.Position position reserved available) =
    position_data position reserved available
reply_data s (reply.Statement lines) = statement_data s lines
reply_data s (reply.Refused fault) = refused_data fault

-- True if the place has, or had, a transfer.
abbrev pub is_used : State → Bool
is_used state.Unused = false
is_used state.Pending = true
is_used (state.Decided outcome) = true

-- True if the reply is one of a hub with these settings.
abbrev pub reply_can_be_written : HubSettings → Reply → Bool
reply_can_be_written s (reply.Done reference) = true
reply_can_be_written s (reply.Taken id deadline) = true
reply_can_be_written s (reply.State from id state) = is_participant s from && is_used state
reply_can_be_written s (reply.Inbox entries) =
    list_all (λ entry. is_participant s entry.from) entries
reply_can_be_written s (reply.Position position reserved available) = true
reply_can_be_written s (reply.Statement lines) = list_all (line_fits s) lines
reply_can_be_written s (reply.Refused fault) = true

-- The line that says if a step brought anything new.
abbrev pub new_data : Bool → Data
new_data new = object (members (
    (codes "new", boolean new)
    ∷ reply_member (codes "step") ∷ []))

-- The object of an answer.
abbrev pub answer_data : HubSettings → Answer → Data
answer_data s (answer.Reply reply) = reply_data s reply
answer_data s (answer.New new) = new_data new

-- True if the answer is one of a hub with these settings.
abbrev pub answer_can_be_written : HubSettings → Answer → Bool
answer_can_be_written s (answer.Reply reply) = reply_can_be_written s reply
answer_can_be_written s (answer.New new) = true
