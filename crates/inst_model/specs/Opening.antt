-- How a hub begins: with empty histories, or from books: one sound history for each participant,
-- closed together. A choice of this hub.
use Rattle.std.specs.Prelude.{ℕ, List, [], ◌∷◌, ◌++◌}
use Rattle.inst_settings.specs.Settings.{HubSettings}
use Rattle.inst_journal.specs.declared.event.Event.{Event}
use Rattle.inst_journal.specs.declared.event.Event.TheVariants.{Opened}
use Rattle.inst_journal.specs.Opened.{HasOpeningsLeft}
use Rattle.inst_journal.specs.Sound.{IsSound}
use Rattle.inst_model.specs.Fit.{BooksAreClosed}

-- How a hub begins.
pub data Opening : Type 0 where
  First : Opening
  FromBooks : (books : ℕ → List Event) → Opening

-- The book of p that the hub is opened from; empty the first time.
abbrev pub book : Opening → ℕ → List Event
book First p = []
book (FromBooks books) p = books p

-- The history with which p begins.
abbrev pub beginning : Opening → ℕ → List Event
beginning First p = []
beginning (FromBooks books) p = books p ++ Opened ∷ []

-- A hub can open from the books: they are sound, closed, and have an opening left.
pub record BooksCanOpen (s : HubSettings) (books : ℕ → List Event) : Type 0 where
  pub sound : (p : ℕ) → IsSound s p (books p)
  pub closed : BooksAreClosed s books
  pub few : (p : ℕ) → HasOpeningsLeft (books p)

-- A hub with these settings can begin so.
abbrev pub IsOpening : HubSettings → Opening → Type 0
IsOpening s First = Unit {0}
IsOpening s (FromBooks books) = BooksCanOpen s books
