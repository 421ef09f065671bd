-- A closed hub as contracts see it: its settings, and the books of its participants by number. A
-- choice of this hub.
use Rattle.std.specs.Prelude.{◌≡◌, ℕ, List, length, slice_get, Some}
use Rattle.inst_settings.specs.Settings.{HubSettings, participants}
use Rattle.inst_settings.specs.Lawful.{IsSettings}
use Rattle.inst_model.specs.Closing.{AreClosed}
use Rattle.inst_slot.specs.Book.{Book}
use Rattle.inst_participant.specs.Together.{histories}

-- The settings and the books.
pub record ClosedHub : Type 0 where
  pub settings : HubSettings
  pub books : List Book

-- Each book is that of the participant with its number.
abbrev pub AreNumbered : List Book → Type 0
AreNumbered books = (p : ℕ) (book : Book) → slice_get books p ≡ Some book → book.who ≡ p

-- There is a book for each participant of a hub with lawful settings, and the books are closed.
pub record IsClosed (s : HubSettings) (books : List Book) : Type 0 where
  pub lawful : IsSettings s
  pub one_each : length books ≡ participants s
  pub numbered : AreNumbered books
  pub closed : AreClosed s (histories books)
