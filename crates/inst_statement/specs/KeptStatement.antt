-- A statement that is stored line by line: the lines since the last opening, and the position
-- before them. A choice of this hub.
use Rattle.std.specs.Prelude.{◌≡◌, ℕ, ◌+◌, ◌<◌, ◌≤◌, ◌^◌, List, [], ◌∷◌, ◌++◌, length}
use Rattle.inst_command.specs.declared.line.Line.{Line}
use Rattle.inst_journal.specs.declared.event.Event.{Event}
use Rattle.inst_journal.specs.Lines.{raised, lowered}
use Rattle.inst_journal.specs.Money.{position}
use Rattle.inst_journal.specs.Statement.{statement}
use Rattle.inst_statement.specs.declared.kept_line.KeptLine.{KeptLine}
use Rattle.inst_statement.specs.declared.movement.Movement.{Movement}
use Rattle.inst_statement.specs.KeptLine.{AreNamed, MoveByAmounts, lines_at, reached}

-- A contract's view of a statement: its stored lines, the position before the first one in cents,
-- and the free capacity in lines.
pub record Stated : Type 0 where
  pub lines : List KeptLine
  pub begun : ℕ
  pub room : ℕ

-- Each line changes the position by an amount, and its number fits 32 bits.
pub record IsStatement (begun : ℕ) (lines : List KeptLine) : Type 0 where
  pub moved : MoveByAmounts begun lines
  pub few : length lines < 2 ^ 32

-- The position after the last line.
abbrev pub position_of : Stated → ℕ
position_of stated = reached stated.begun stated.lines

-- The lines of the statement, made with the history.
abbrev pub lines_of_statement : List Event → Stated → List Line
lines_of_statement J stated = lines_at J 1 stated.begun stated.lines

-- The movement changes the position `before` to the position `after`.
abbrev pub LeadsOn : ℕ → Movement → ℕ → Type 0
LeadsOn before movement after =
    after + lowered movement.kind movement.cents ≡ before + raised movement.kind movement.cents

-- The stored line of a movement, with the index of its event.
abbrev pub line_with : ℕ → ℕ → Movement → KeptLine
line_with event after movement = record {
  event = event;
  kind = movement.kind;
  other = movement.other;
  position = after;
}

-- There is capacity for the movement's line, the position covers it and fits 64 bits, and the
-- line's number fits 32.
pub record MayAdd (before : Stated) (movement : Movement) : Type 0 where
  pub room : 0 < before.room
  pub covered : lowered movement.kind movement.cents
      ≤ position_of before + raised movement.kind movement.cents
  pub fits : position_of before + raised movement.kind movement.cents < 2 ^ 64
  pub few : length before.lines + 1 < 2 ^ 32

-- The position changes by the movement, and its line is the next one.
pub record AddsLine (before : Stated) (event : ℕ) (movement : Movement)
    (after : Stated) : Type 0 where
  pub begun : after.begun ≡ before.begun
  pub leads : LeadsOn (position_of before) movement (position_of after)
  pub line : after.lines ≡ before.lines ++ line_with event (position_of after) movement ∷ []

-- The lines are those of the history's statement, each with an event of it, and the position is the
-- history's.
pub record IsStatementOf (J : List Event) (stated : Stated) : Type 0 where
  pub named : AreNamed J stated.lines
  pub are_lines : lines_of_statement J stated ≡ statement J
  pub is_position : position_of stated ≡ position J
