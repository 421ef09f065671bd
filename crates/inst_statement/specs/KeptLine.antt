-- Stored statement lines, and the statement lines that they make with a history. A choice of this
-- hub.
use Rattle.std.specs.Prelude.{ℕ, ◌+◌, List, [], ◌∷◌, Option, Some, None, unwrap_or, option_and_then}
use Rattle.std.specs.Prelude.{slice_get, IsSome, IsTrue}
use Rattle.std.specs.Int.{abs_diff}
use Rattle.std.specs.List.{All}
use Rattle.inst_base.specs.Cents.{is_amount}
use Rattle.inst_command.specs.declared.line.Line.{Line}
use Rattle.inst_journal.specs.declared.event.Event.{Event}
use Rattle.inst_journal.specs.declared.event.Event.TheVariants.{Funded, Defunded, Taken, Forwarded}
use Rattle.inst_journal.specs.declared.event.Event.TheVariants.{Booked, Fetched, Opened}
use Rattle.inst_statement.specs.declared.kept_line.KeptLine.{KeptLine}

-- The name in the line of an event that may have one: the reference, or the identifier of the
-- booked transfer.
abbrev pub line_name : Event → Option (List ℕ)
line_name (Funded funding) = Some funding.reference
line_name (Defunded funding) = Some funding.reference
line_name (Booked from id outcome) = Some id
line_name (Taken id to cents stamp) = None
line_name (Forwarded from id cents deadline) = None
line_name (Fetched count) = None
line_name Opened = None

-- The name of the history's event with this index.
abbrev pub name_at : List Event → ℕ → Option (List ℕ)
name_at J index = option_and_then line_name (slice_get J index)

-- Each of the lines has an event with a name.
abbrev pub AreNamed : List Event → List KeptLine → Type 0
AreNamed J lines = All (λ kept. IsSome (name_at J kept.event)) lines

-- The line of a stored line, with this number and after the position `before`: its name is that of
-- its event, and its amount is the difference of the two positions.
abbrev pub line_at : List Event → ℕ → ℕ → KeptLine → Line
line_at J number before kept = record {
  number = number;
  kind = kept.kind;
  other = kept.other;
  id = unwrap_or (name_at J kept.event) [];
  cents = abs_diff kept.position before;
  position = kept.position;
}

-- The lines of stored lines, numbered from `number`, after the position `before`.
abbrev pub lines_at : List Event → ℕ → ℕ → List KeptLine → List Line
lines_at J number before [] = []
lines_at J number before (kept ∷ lines) =
    line_at J number before kept ∷ lines_at J (number + 1) kept.position lines

-- The position after the last line.
abbrev pub reached : ℕ → List KeptLine → ℕ
reached before [] = before
reached before (kept ∷ lines) = reached kept.position lines

-- Each of the lines changes the position by an amount.
abbrev pub MoveByAmounts : ℕ → List KeptLine → Type 0
MoveByAmounts before [] = Unit {0}
MoveByAmounts before (kept ∷ lines) =
    IsTrue (is_amount (abs_diff kept.position before)) × MoveByAmounts kept.position lines
