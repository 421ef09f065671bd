-- The events of books as JSON objects, one for each line: tables of members, with the keys in byte
-- order. Moments are absolute milliseconds, amounts cents, and participants codes. A choice of this
-- hub.
use Rattle.std.specs.Prelude.{ℕ, ◌+◌, Bool, true, List, [], ◌∷◌, codes}
use Rattle.serde_json.specs.Data.{Data, object, string}
use Rattle.serde_json.specs.Written.{compact_text}
use Rattle.inst_settings.specs.Settings.{HubSettings, is_participant}
use Rattle.inst_command.specs.Ask.{is_count}
use Rattle.inst_command.specs.LineText.{code_numbered}
use Rattle.inst_command.specs.declared.funding.Funding.{Funding}
use Rattle.inst_command.specs.declared.outcome.Outcome.{Outcome}
use Rattle.inst_command.specs.declared.outcome.Outcome.TheVariants.{Accepted, Rejected, TimedOut}
use Rattle.inst_journal.specs.declared.event.Event.{Event}
use Rattle.inst_journal.specs.declared.event.Event.TheVariants.{Funded, Defunded, Taken, Forwarded}
use Rattle.inst_journal.specs.declared.event.Event.TheVariants.{Booked, Fetched, Opened}
use Rattle.inst_json.specs.Replies.{members, whole}

-- The name of an event.
abbrev pub event_member : List ℕ → List ℕ × Data
event_member name = (codes "event", string name)

-- The participant whose book the event is in.
abbrev pub in_book : List ℕ → List ℕ × Data
in_book book = (codes "book", string book)

-- A funding or defunding, by its name.
abbrev pub funding_data : List ℕ → List ℕ → Funding → Data
funding_data book name funding = object (members (
    in_book book
    ∷ (codes "cents", whole funding.cents)
    ∷ event_member name
    ∷ (codes "ref", string funding.reference) ∷ []))

-- A taken submission.
abbrev pub taken_event_data : List ℕ → List ℕ → List ℕ → ℕ → ℕ → Data
taken_event_data book id to cents stamp = object (members (
    in_book book
    ∷ (codes "cents", whole cents)
    ∷ event_member (codes "taken")
    ∷ (codes "id", string id)
    ∷ (codes "stamp", whole stamp)
    ∷ (codes "to", string to) ∷ []))

-- A forwarded transfer.
abbrev pub forwarded_data : List ℕ → List ℕ → List ℕ → ℕ → ℕ → Data
forwarded_data book from id cents deadline = object (members (
    in_book book
    ∷ (codes "cents", whole cents)
    ∷ (codes "deadline", whole deadline)
    ∷ event_member (codes "forwarded")
    ∷ (codes "from", string from)
    ∷ (codes "id", string id) ∷ []))

-- An outcome without a reason.
abbrev pub booked_data : List ℕ → List ℕ → List ℕ → List ℕ → Data
booked_data book from id outcome = object (members (
    in_book book
    ∷ event_member (codes "booked")
    ∷ (codes "from", string from)
    ∷ (codes "id", string id)
    ∷ (codes "outcome", string outcome) ∷ []))

-- A booked rejection, with the reason.
abbrev pub rejected_event_data : List ℕ → List ℕ → List ℕ → List ℕ → Data
rejected_event_data book from id reason = object (members (
    in_book book
    ∷ event_member (codes "booked")
    ∷ (codes "from", string from)
    ∷ (codes "id", string id)
    ∷ (codes "outcome", string (codes "rejected"))
    ∷ (codes "reason", string reason) ∷ []))

-- A fetch.
abbrev pub fetched_data : List ℕ → ℕ → Data
fetched_data book count = object (members (
    in_book book
    ∷ (codes "count", whole count)
    ∷ event_member (codes "fetched") ∷ []))

-- An opening.
abbrev pub opened_data : List ℕ → Data
opened_data book = object (members (
    in_book book
    ∷ event_member (codes "opened") ∷ []))

-- A booked outcome. Outcomes have the names that they have in state replies.
abbrev pub outcome_data : List ℕ → List ℕ → List ℕ → Outcome → Data
outcome_data book from id Accepted = booked_data book from id (codes "accepted")
outcome_data book from id (Rejected reason) = rejected_event_data book from id reason
outcome_data book from id TimedOut = booked_data book from id (codes "timed_out")

-- An event in the book with this code.
abbrev pub data_in : HubSettings → List ℕ → Event → Data
data_in s book (Funded funding) = funding_data book (codes "funded") funding
data_in s book (Defunded funding) = funding_data book (codes "defunded") funding
data_in s book (Taken id to cents stamp) =
    taken_event_data book id (code_numbered s to) cents (s.base + stamp)
data_in s book (Forwarded from id cents deadline) =
    forwarded_data book (code_numbered s from) id cents (s.base + deadline)
data_in s book (Booked from id outcome) = outcome_data book (code_numbered s from) id outcome
data_in s book (Fetched count) = fetched_data book count
data_in s book Opened = opened_data book

-- An event in the book of participant `who`.
abbrev pub event_data : HubSettings → ℕ → Event → Data
event_data s who event = data_in s (code_numbered s who) event

-- The line of an event, without its newline.
unfoldable pub event_line : HubSettings → ℕ → Event → List ℕ
event_line s who event = compact_text (event_data s who event)

-- True if the event is one of a hub with these settings: it names known participants, and a fetch
-- has 1 to 100.
abbrev pub event_can_be_written : HubSettings → Event → Bool
event_can_be_written s (Funded funding) = true
event_can_be_written s (Defunded funding) = true
event_can_be_written s (Taken id to cents stamp) = is_participant s to
event_can_be_written s (Forwarded from id cents deadline) = is_participant s from
event_can_be_written s (Booked from id outcome) = is_participant s from
event_can_be_written s (Fetched count) = is_count count
event_can_be_written s Opened = true
