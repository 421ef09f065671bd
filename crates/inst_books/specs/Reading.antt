-- The event of a line. A line is a JSON object; its book, its event and the event's members are
-- found by name, in any order, and other names are ignored. A choice of this hub.
use Rattle.std.specs.Prelude.{◌≡◌, ◌⊎◌, ℕ, List, Result, Ok, Err, codes, if◌then◌else◌}
use Rattle.inst_base.specs.Cents.{cents_of}
use Rattle.inst_base.specs.Moment.{moment_of}
use Rattle.inst_base.specs.Text.{identifier_of}
use Rattle.inst_base.specs.declared.fault.Fault.{Fault}
use Rattle.inst_base.specs.declared.fault.Fault.TheVariants.{BadField}
use Rattle.inst_settings.specs.Settings.{HubSettings, same_text}
use Rattle.inst_command.specs.declared.outcome.Outcome.{Outcome}
use Rattle.inst_command.specs.declared.outcome.Outcome.TheVariants.{Accepted, Rejected, TimedOut}
use Rattle.inst_journal.specs.declared.event.Event.{Event}
use Rattle.inst_journal.specs.declared.event.Event.TheVariants.{Funded, Defunded, Taken, Forwarded}
use Rattle.inst_journal.specs.declared.event.Event.TheVariants.{Booked, Fetched, Opened}
use Rattle.inst_json.specs.LineFields.{FoundValue, LineFields, fields_of}
use Rattle.inst_json.specs.Refusals.{◌>>=◌}
use Rattle.inst_json.specs.Fields.{text_in, whole_in, code_in, reason_in, count_in}
use Rattle.inst_json.specs.Checks.{participant_of}
use Rattle.inst_json.specs.Lines.{json_of}
use Rattle.inst_books.specs.declared.fault.BookFault.{BookFault}
use Rattle.inst_books.specs.declared.fault.BookFault.TheVariants.{BadLine, Memory}

-- An identifier.
unfoldable pub identifier_in : FoundValue → Result (List ℕ) Fault
identifier_in field = text_in field >>= identifier_of

-- An amount.
unfoldable pub amount_in : FoundValue → Result ℕ Fault
amount_in field = whole_in field >>= cents_of

-- A moment, which a line has in absolute milliseconds.
unfoldable pub moment_in : HubSettings → FoundValue → Result ℕ Fault
moment_in s field = whole_in field >>= moment_of s.base

-- A participant, which a line has as its code.
unfoldable pub participant_in : HubSettings → FoundValue → Result ℕ Fault
participant_in s field = code_in field >>= participant_of s

-- The outcome of a transfer.
abbrev pub outcome_named : LineFields → List ℕ → Result Outcome Fault
outcome_named line name =
    if same_text name (codes "accepted") then Ok Accepted else
    (if same_text name (codes "timed_out") then Ok TimedOut else
    (if same_text name (codes "rejected") then
    (reason_in line.reason >>= λ reason. Ok (Rejected reason))
    else Err BadField))

-- The outcome of a line.
unfoldable pub outcome_in : LineFields → Result Outcome Fault
outcome_in line = text_in line.outcome >>= outcome_named line

-- A funding.
unfoldable pub funded_in : LineFields → Result Event Fault
funded_in line = do
  reference ← identifier_in line.reference
  cents ← amount_in line.cents
  Ok (Funded (record { reference = reference; cents = cents }))

-- A defunding.
unfoldable pub defunded_in : LineFields → Result Event Fault
defunded_in line = do
  reference ← identifier_in line.reference
  cents ← amount_in line.cents
  Ok (Defunded (record { reference = reference; cents = cents }))

-- A taken submission.
unfoldable pub taken_in : HubSettings → LineFields → Result Event Fault
taken_in s line = do
  id ← identifier_in line.id
  to ← participant_in s line.to
  cents ← amount_in line.cents
  stamp ← moment_in s line.stamp
  Ok (Taken id to cents stamp)

-- A forwarded transfer.
unfoldable pub forwarded_in : HubSettings → LineFields → Result Event Fault
forwarded_in s line = do
  from ← participant_in s line.from
  id ← identifier_in line.id
  cents ← amount_in line.cents
  deadline ← moment_in s line.deadline
  Ok (Forwarded from id cents deadline)

-- A booked outcome.
unfoldable pub booked_in : HubSettings → LineFields → Result Event Fault
booked_in s line = do
  from ← participant_in s line.from
  id ← identifier_in line.id
  outcome ← outcome_in line
  Ok (Booked from id outcome)

-- A fetch.
unfoldable pub fetched_in : LineFields → Result Event Fault
fetched_in line = do
  count ← count_in line.count
  Ok (Fetched count)

-- The event of this name.
abbrev pub event_named : HubSettings → LineFields → List ℕ → Result Event Fault
event_named s line name =
    if same_text name (codes "funded") then funded_in line else
    (if same_text name (codes "defunded") then defunded_in line else
    (if same_text name (codes "taken") then taken_in s line else
    (if same_text name (codes "forwarded") then forwarded_in s line else
    (if same_text name (codes "booked") then booked_in s line else
    (if same_text name (codes "fetched") then fetched_in line else
    (if same_text name (codes "opened") then Ok Opened else Err BadField))))))

-- A participant, and an event of its book.
abbrev pub Entry : Type 0
Entry = ℕ × Event

-- The event of a line's fields.
unfoldable pub entry_in : HubSettings → LineFields → Result Entry Fault
entry_in s line = do
  who ← participant_in s line.book
  name ← text_in line.event
  event ← event_named s line name
  Ok (who, event)

-- The event of a line and its participant, or the fault of the line.
unfoldable pub entry_of_line : HubSettings → List ℕ → Result Entry Fault
entry_of_line s line = do
  value ← json_of line
  entry_in s (fields_of value)

-- Any fault of a line makes it a bad line.
abbrev pub or_bad_line : {X : Type 0} → Result X Fault → Result X BookFault
or_bad_line (Ok x) = Ok x
or_bad_line (Err fault) = Err BadLine

-- The result is the wanted one, or Memory.
abbrev pub IsBookUnlessMemory : {X : Type 0} → Result X BookFault → Result X BookFault → Type 0
IsBookUnlessMemory returned wanted = (returned ≡ Err Memory) ⊎ (returned ≡ wanted)

-- The result, seen through view, is the wanted one, or its fault is Memory.
abbrev pub GivesBookUnlessMemory : {X Y : Type 0} → (X → Y) → Result X BookFault →
    Result Y BookFault →
    Type 0
GivesBookUnlessMemory view (Ok x) wanted = Ok (view x) ≡ wanted
GivesBookUnlessMemory view (Err fault) wanted = (fault ≡ Memory) ⊎ (Err fault ≡ wanted)

-- The event of a line and its participant, or BadLine.
abbrev pub event_of_line : HubSettings → List ℕ → Result Entry BookFault
event_of_line s line = or_bad_line (entry_of_line s line)
