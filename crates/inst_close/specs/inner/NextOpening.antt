-- Copies of the books of a closed hub.
use Rattle.std.specs.Prelude.{◌≡◌, ℕ, ◌+◌, List, length}
use Rattle.inst_journal.specs.History.{History}
use Rattle.inst_slot.specs.Book.{Book}
use Rattle.inst_world.specs.NextOpening.{books_of}
use Rattle.inst_participant.specs.Together.{histories}

-- The journals are copies of the books, by number.
pub record AreCopies (books : List Book) (journals : List History) : Type 0 where
  pub one_each : length journals ≡ length books
  pub same : (p : ℕ) → books_of journals p ≡ histories books p

-- The journals are copies of the books, by number, followed by so many empty ones.
pub record AreCopiesAnd (books : List Book) (more : ℕ) (journals : List History) : Type 0 where
  pub one_each : length journals ≡ length books + more
  pub same : (p : ℕ) → books_of journals p ≡ histories books p
