-- The lines of a statement: numbers count from 1, and each position follows from the one before it,
-- as the entries of an account statement lead from its opening balance to its closing balance. A
-- promise of this hub.
use Rattle.std.specs.Prelude.{◌≡◌, ℕ, ◌+◌, ◌≤◌, List, [], ◌∷◌, ◌++◌, length, take, Option, Some}
use Rattle.std.specs.Prelude.{None, Ok, slice_get, Contains}
use Rattle.inst_settings.specs.Settings.{HubSettings}
use Rattle.inst_command.specs.declared.command.Command.TheVariants.{Query}
use Rattle.inst_command.specs.declared.query.Query.TheVariants.{Statement as AskStatement}
use Rattle.inst_command.specs.declared.line.Line.{Line}
use Rattle.inst_command.specs.declared.line.LineKind.{LineKind}
use Rattle.inst_command.specs.declared.line.LineKind.TheVariants.{Funded, Defunded, Received, Paid}
use Rattle.inst_command.specs.declared.outcome.Outcome.{Outcome}
use Rattle.inst_command.specs.declared.outcome.Outcome.TheVariants.{Accepted}
use Rattle.inst_command.specs.declared.reply.Reply.TheVariants.{Statement}
use Rattle.inst_journal.specs.declared.event.Event.{Event}
use Rattle.inst_journal.specs.declared.event.Event.TheVariants.{Funded as FundedEvent}
use Rattle.inst_journal.specs.declared.event.Event.TheVariants.{Defunded as DefundedEvent, Taken}
use Rattle.inst_journal.specs.declared.event.Event.TheVariants.{Forwarded, Booked, Opened}
use Rattle.inst_journal.specs.Money.{position}
use Rattle.inst_journal.specs.Opened.{carried}
use Rattle.inst_journal.specs.Reply.{reply, history_after}
use Rattle.inst_journal.specs.Statement.{statement}
use Rattle.inst_journal.specs.Sound.{IsSound}

-- The amount that a line of this kind adds to the position.
abbrev pub raised : LineKind → ℕ → ℕ
raised Funded cents = cents
raised Received cents = cents
raised Defunded cents = 0
raised Paid cents = 0

-- The amount that a line of this kind takes from the position.
abbrev pub lowered : LineKind → ℕ → ℕ
lowered Funded cents = 0
lowered Received cents = 0
lowered Defunded cents = cents
lowered Paid cents = cents

-- The lines lead from the position `before` to the position `last`, each from the position of the
-- line before it.
abbrev pub Lead : ℕ → List Line → ℕ → Type 0
Lead before [] last = before ≡ last
Lead before (line ∷ lines) last =
    (before + raised line.kind line.cents ≡ line.position + lowered line.kind line.cents)
    × Lead line.position lines last

-- The history has what the line states: a funding or a defunding with this reference and amount; or
-- a transfer from the other participant, with this identifier and amount, that is booked accepted.
-- For a `Paid` line it has an own transfer to the other participant, and some transfer with its
-- identifier, of any originator, is booked accepted.
abbrev pub IsOf : List Event → LineKind → Line → Type 0
IsOf J Funded line =
    (line.other ≡ None)
    × Contains J (FundedEvent (record { reference = line.id; cents = line.cents }))
IsOf J Defunded line =
    (line.other ≡ None)
    × Contains J (DefundedEvent (record { reference = line.id; cents = line.cents }))
IsOf J Received line = (from : ℕ) × (deadline : ℕ) × (line.other ≡ Some from)
    × Contains J (Forwarded from line.id line.cents deadline)
    × Contains J (Booked from line.id Accepted)
IsOf J Paid line = (from : ℕ) × (to : ℕ) × (stamp : ℕ) × (line.other ≡ Some to)
    × Contains J (Taken line.id to line.cents stamp) × Contains J (Booked from line.id Accepted)

-- The law: each line of a statement is one of its history.
abbrev pub ALineTellsAnEvent : Type 0
ALineTellsAnEvent =
    (J : List Event) (k : ℕ) (line : Line) → slice_get (statement J) k ≡ Some line →
    IsOf J line.kind line

-- The lines are numbered from 1.
abbrev pub LinesCountFromOne : Type 0
LinesCountFromOne =
    (J : List Event) (k : ℕ) (line : Line) → slice_get (statement J) k ≡ Some line →
    line.number ≡ k + 1

-- An opening begins a new, empty statement.
abbrev pub AnOpeningBeginsAStatement : Type 0
AnOpeningBeginsAStatement = (J : List Event) → statement (J ++ Opened ∷ []) ≡ []

-- A statement leads from the position at the last opening to the present position.
abbrev pub AStatementLeadsToThePosition : Type 0
AStatementLeadsToThePosition = (s : HubSettings) (who : ℕ) (J : List Event) → IsSound s who J →
    Lead (position (carried J)) (statement J) (position J)

-- A query for `count` lines after the first `skip` replies the next part of the statement.
pub record NextPart
    (s : HubSettings) (who : ℕ) (J : List Event) (skip count at : ℕ) (found : Option Outcome) : Type
    0 where
  pub part : List Line
  pub replied : reply s who J (Query (AskStatement skip count)) at found ≡ Ok (Statement part)
  pub short : length part ≤ count
  pub next : take skip (statement J) ++ part ≡ take (skip + count) (statement J)
  pub same_history : history_after s who J (Query (AskStatement skip count)) at found ≡ J

-- The law: `NextPart` for all histories and queries.
abbrev pub AStatementIsReadByParts : Type 0
AStatementIsReadByParts =
    (s : HubSettings) (who : ℕ) (J : List Event) (skip count at : ℕ) (found : Option Outcome) →
    NextPart s who J skip count at found
