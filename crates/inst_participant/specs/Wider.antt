-- Participants that join between two openings. Their codes follow those of the others, so each old
-- number stays, and their books are empty. A choice of this hub.
use Rattle.std.specs.Prelude.{ℕ, List, ◌++◌}
use Rattle.inst_settings.specs.Settings.{HubSettings}
use Rattle.inst_journal.specs.declared.event.Event.{Event}
use Rattle.inst_journal.specs.Opened.{HasOpeningsLeft}
use Rattle.inst_model.specs.Closing.{AreClosed}
use Rattle.inst_model.specs.Opening.{IsOpening}
use Rattle.inst_model.specs.Opening.Opening.{FromBooks}

-- The settings with these codes after the others.
abbrev pub widened : HubSettings → List (List ℕ) → HubSettings
widened s codes = record s { codes = s.codes ++ codes }

-- Closed books stay closed if participants join.
abbrev pub ClosedBooksStayClosedWider : Type 0
ClosedBooksStayClosedWider =
    (s : HubSettings) (codes : List (List ℕ)) (J : ℕ → List Event) → AreClosed s J →
    AreClosed (widened s codes) J

-- A hub can open from closed books, also if participants join, unless one of the books was opened
-- too often.
abbrev pub ClosedBooksOpenWider : Type 0
ClosedBooksOpenWider =
    (s : HubSettings) (codes : List (List ℕ)) (J : ℕ → List Event) → AreClosed s J →
    ((p : ℕ) → HasOpeningsLeft (J p)) → IsOpening (widened s codes) (FromBooks J)

-- The same without joining participants.
abbrev pub ClosedBooksOpenNext : Type 0
ClosedBooksOpenNext =
    (s : HubSettings) (J : ℕ → List Event) → AreClosed s J → ((p : ℕ) → HasOpeningsLeft (J p)) →
    IsOpening s (FromBooks J)
