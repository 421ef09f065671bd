-- The positions of all participants, as numbers.
use Rattle.std.specs.Prelude.{◌≡◌, ℕ, ◌<◌, true, List, [], length, get_or}
use Rattle.std.specs.List.{list_all}
use Rattle.inst_settings.specs.Settings.{HubSettings}
use Rattle.inst_journal.specs.History.{History}
use Rattle.inst_journal.specs.Money.{position, reserved}
use Rattle.inst_world.specs.NextOpening.{books_of}
use Rattle.inst_books.specs.Positions.{is_fund, position_of}

-- The numbers are the positions of the first journals, whose transfers are all settled.
pub record ArePositionsOf (journals : List History) (positions : List ℕ) : Type 0 where
  pub each : (p : ℕ) → p < length positions → get_or positions p 0 ≡ position (books_of journals p)
  pub settled : (p : ℕ) → p < length positions → reserved (books_of journals p) ≡ 0

-- They are the positions of all journals.
pub record AreAllPositions (journals : List History) (positions : List ℕ) : Type 0 where
  pub one_each : length positions ≡ length journals
  pub are : ArePositionsOf journals positions

-- The first participants of the new settings have the positions of before, from fundings alone.
pub record AreFunded (old : HubSettings) (books : List History) (codes : List (List ℕ))
    (next : List History) : Type 0 where
  pub only : (q : ℕ) → q < length next → list_all is_fund (books_of next q) ≡ true
  pub same : (q : ℕ) → q < length next →
      position (books_of next q) ≡ position_of old books (get_or codes q [])
