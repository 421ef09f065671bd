-- A participant's statement: a line for each funding, defunding and accepted transfer, with the
-- position after it. Its contents are a choice of this hub, modelled on the entries and balances of
-- an account statement.
use Rattle.std.specs.Prelude.{ℕ, ◌+◌, if◌then◌else◌, List, [], ◌∷◌, ◌++◌, take, drop, Option, Some}
use Rattle.std.specs.Prelude.{None}
use Rattle.inst_command.specs.declared.outcome.Outcome.TheVariants.{Accepted, Rejected, TimedOut}
use Rattle.inst_command.specs.declared.line.Line.{Line}
use Rattle.inst_command.specs.declared.line.LineKind.TheVariants.{Funded as FundedKind}
use Rattle.inst_command.specs.declared.line.LineKind.TheVariants.{Defunded as DefundedKind}
use Rattle.inst_command.specs.declared.line.LineKind.TheVariants.{Received, Paid}
use Rattle.inst_journal.specs.declared.event.Event.{Event}
use Rattle.inst_journal.specs.declared.event.Event.TheVariants.{Funded, Defunded, Taken, Forwarded}
use Rattle.inst_journal.specs.declared.event.Event.TheVariants.{Booked, Fetched, Opened}
use Rattle.inst_journal.specs.Booked.{first_some, takes, forwards, is_forwarded}
use Rattle.inst_journal.specs.Opened.{carried, current}
use Rattle.inst_journal.specs.Money.{position}

-- The line of a forwarded transfer that was accepted.
abbrev pub received : ℕ → ℕ → ℕ → List ℕ → Event → Option Line
received number after from id (Forwarded other_from other cents deadline) =
    if forwards from id (Forwarded other_from other cents deadline)
    then Some (record {
      number = number;
      kind = Received;
      other = Some from;
      id = id;
      cents =
          cents;
      position = after;
    })
    else None
received number after from id _ = None

-- The line of a taken transfer that was accepted.
abbrev pub paid : ℕ → ℕ → List ℕ → Event → Option Line
paid number after id (Taken other to cents stamp) =
    if takes id (Taken other to cents stamp)
    then Some (record {
      number = number;
      kind = Paid;
      other = Some to;
      id = id;
      cents =
          cents;
      position = after;
    })
    else None
paid number after id _ = None

-- The line of an accepted transfer of the history J: a forwarded one, else the participant's own.
abbrev pub line_of_accepted : List Event → ℕ → ℕ → ℕ → List ℕ → Option Line
line_of_accepted J number after from id =
    if is_forwarded from id J then first_some (received number after from id) J
    else first_some (paid number after id) J

-- The line of an event in the history J, with this number and this position after it.
abbrev pub line_of : List Event → ℕ → ℕ → Event → Option Line
line_of J number after (Funded funding) =
    Some (record {
      number = number;
      kind = FundedKind;
      other = None;
      id = funding.reference;
      cents =
          funding.cents;
      position = after;
    })
line_of J number after (Defunded funding) =
    Some (record {
      number = number;
      kind = DefundedKind;
      other = None;
      id =
          funding.reference;
      cents = funding.cents;
      position = after;
    })
line_of J number after (Booked from id Accepted) = line_of_accepted J number after from id
line_of J number after (Booked from id (Rejected reason)) = None
line_of J number after (Booked from id TimedOut) = None
line_of J number after (Taken id to cents stamp) = None
line_of J number after (Forwarded from id cents deadline) = None
line_of J number after (Fetched count) = None
line_of J number after Opened = None

-- If there is a line, it and then `next`, whose numbers begin one later; else `numbered_on`, whose
-- first line has the number that this one would have had.
abbrev pub with_line : Option Line → List Line → List Line → List Line
with_line None numbered_on next = numbered_on
with_line (Some line) numbered_on next = line ∷ next

-- The lines of the events after the prefix `front` of the history J, numbered from `number`, each
-- with the position after its event.
abbrev pub lines_after : List Event → List Event → ℕ → List Event → List Line
lines_after J front number [] = []
lines_after J front number (event ∷ events) =
    with_line (line_of J number (position (front ++ event ∷ [])) event)
    (lines_after J (front ++ event ∷ []) number events)
    (lines_after J (front ++ event ∷ []) (number + 1) events)

-- The lines of the events after the last Opened, numbered from 1.
abbrev pub statement : List Event → List Line
statement J = lines_after J (carried J) 1 (current J)

-- At most `count` lines after the first `skip`.
abbrev pub statement_part : List Event → ℕ → ℕ → List Line
statement_part J skip count = take count (drop skip (statement J))
